use Rattle.std.proofs.Common.{inr}
use Rattle.std.proofs.lemmas.Result.{err_from_is_err_and}
use Rattle.td_image.specs.Image.{routine}
use Rattle.td_image.proofs.routines.routine_of.Goals as goal

pub returns-in_err-buffers-clause-memory : goal.returns-in_err-buffers-clause-memory
unfolding routine
returns-in_err-buffers-clause-memory c =
    let p = err_from_is_err_and c.from_residual-in_err-buffers.result c.from_residual-in_err-buffers.ensures.1 in
    rw (p.1, p.2) (λ ran. inr (
      c.in_ok-name.name,
      c.in_ok-name.rest.now,
      c.in_ok-name.ensures.read,
      inr (
        c.in_ok-params.params,
        c.in_ok-params.rest.now,
        c.in_ok-params.ensures.read,
        inr (
          c.in_ok-cells.cells,
          c.in_ok-cells.rest.now,
          c.in_ok-cells.ensures.read,
          inr (
            c.in_ok-registers.registers,
            c.in_ok-registers.rest.now,
            c.in_ok-registers.ensures.read,
            inr (c.in_ok-length.length, c.in_ok-length.rest.now, c.in_ok-length.ensures.read, c.in_err-buffers.ensures.memory ran),
          ),
        ),
      ),
    ))
