use Rattle.std.proofs.Common.{inl, inr, ◌≡◌, ℕ, Ok, subst}
use Rattle.std.proofs.lemmas.Result.{err_from_is_err_and}
use Rattle.td_image.specs.Imports.{Routine}
use Rattle.td_image.specs.Format.{times}
use Rattle.td_image.specs.Image.{entry, param, cell, name_place}
use Rattle.td_image.specs.Reading.{Ends}
use Rattle.td_image.proofs.EntryRead.{entry_read, entry_ends}
use Rattle.td_image.proofs.routines.entry_of.Goals as goal

pub returns-in_err-params-clause-memory : goal.returns-in_err-params-clause-memory
unfolding entry
returns-in_err-params-clause-memory c =
    let p = err_from_is_err_and c.from_residual-in_err-params.result c.from_residual-in_err-params.ensures.1 in
    rw (p.1, p.2) (λ ran. inr (c.in_ok-routine.routine, c.in_ok-routine.rest.now, c.in_ok-routine.ensures.read, inl (subst (λ (r : Routine). (times r.params (param c.args.names)).RunsOut c.in_ok-routine.rest.now) c.routine_at-called.ensures (c.in_err-params.ensures.memory ran))))

pub returns-in_err-cells-clause-memory : goal.returns-in_err-cells-clause-memory
unfolding entry
returns-in_err-cells-clause-memory c =
    let p = err_from_is_err_and c.from_residual-in_err-cells.result c.from_residual-in_err-cells.ensures.1 in
    rw (p.1, p.2) (λ ran. inr (c.in_ok-routine.routine, c.in_ok-routine.rest.now, c.in_ok-routine.ensures.read, inr (c.in_ok-params.params, c.in_ok-params.rest.now, subst (λ (r : Routine). (times r.params (param c.args.names)).read c.in_ok-routine.rest.now ≡ Ok (c.in_ok-params.params, c.in_ok-params.rest.now)) c.routine_at-called.ensures c.in_ok-params.ensures.read, inl (subst (λ (r : Routine). (times r.cells (cell c.args.names)).RunsOut c.in_ok-params.rest.now) c.routine_at-called.ensures (c.in_err-cells.ensures.memory ran)))))

pub returns-in_err-buffers-clause-memory : goal.returns-in_err-buffers-clause-memory
unfolding entry
returns-in_err-buffers-clause-memory c =
    let p = err_from_is_err_and c.from_residual-in_err-buffers.result c.from_residual-in_err-buffers.ensures.1 in
    rw (p.1, p.2) (λ ran. inr (
      c.in_ok-routine.routine,
      c.in_ok-routine.rest.now,
      c.in_ok-routine.ensures.read,
      inr (
        c.in_ok-params.params,
        c.in_ok-params.rest.now,
        subst (λ (r : Routine). (times r.params (param c.args.names)).read c.in_ok-routine.rest.now ≡ Ok (c.in_ok-params.params, c.in_ok-params.rest.now)) c.routine_at-called.ensures c.in_ok-params.ensures.read,
        inr (
          c.in_ok-cells.cells,
          c.in_ok-cells.rest.now,
          subst (λ (r : Routine). (times r.cells (cell c.args.names)).read c.in_ok-params.rest.now ≡ Ok (c.in_ok-cells.cells, c.in_ok-cells.rest.now)) c.routine_at-called.ensures c.in_ok-cells.ensures.read,
          subst (λ (n : ℕ). (times n (name_place c.args.names)).RunsOut c.in_ok-cells.rest.now) c.buffer_count-count.ensures (c.in_err-buffers.ensures.memory ran),
        ),
      ),
    ))

pub returns-in_err-buffers-clause-read : goal.returns-in_err-buffers-clause-read
returns-in_err-buffers-clause-read c =
    let p = err_from_is_err_and c.from_residual-in_err-buffers.result c.from_residual-in_err-buffers.ensures.1 in
    rw (p.1, p.2) (entry_ends c.args.names c.args.routines.now c.args.bytes.now c.in_ok-routine.rest.now c.in_ok-params.rest.now c.in_ok-cells.rest.now c.in_ok-routine.routine c.in_ok-params.params c.in_ok-cells.cells c.in_ok-routine.ensures.read
    (subst (λ (r : Routine). (times r.params (param c.args.names)).read c.in_ok-routine.rest.now ≡ Ok (c.in_ok-params.params, c.in_ok-params.rest.now)) c.routine_at-called.ensures c.in_ok-params.ensures.read)
    (subst (λ (r : Routine). (times r.cells (cell c.args.names)).read c.in_ok-params.rest.now ≡ Ok (c.in_ok-cells.cells, c.in_ok-cells.rest.now)) c.routine_at-called.ensures c.in_ok-cells.ensures.read)
    c.in_err-buffers.field-0.0 (subst (λ (n : ℕ). Ends c.in_err-buffers.field-0.0 ((times n (name_place c.args.names)).read c.in_ok-cells.rest.now)) c.buffer_count-count.ensures c.in_err-buffers.ensures.read))

pub returns-clause-read : goal.returns-clause-read
returns-clause-read c =
    entry_read c.args.names c.args.routines.now c.args.bytes.now c.in_ok-routine.rest.now c.in_ok-params.rest.now c.in_ok-cells.rest.now c.in_ok-routine.routine c.in_ok-params.params c.in_ok-cells.cells c.in_ok-routine.ensures.read
    (subst (λ (r : Routine). (times r.params (param c.args.names)).read c.in_ok-routine.rest.now ≡ Ok (c.in_ok-params.params, c.in_ok-params.rest.now)) c.routine_at-called.ensures c.in_ok-params.ensures.read)
    (subst (λ (r : Routine). (times r.cells (cell c.args.names)).read c.in_ok-params.rest.now ≡ Ok (c.in_ok-cells.cells, c.in_ok-cells.rest.now)) c.routine_at-called.ensures c.in_ok-cells.ensures.read)
    c.in_ok-buffers.buffers c.in_ok-buffers.rest.now (subst (λ (n : ℕ). (times n (name_place c.args.names)).read c.in_ok-cells.rest.now ≡ Ok (c.in_ok-buffers.buffers, c.in_ok-buffers.rest.now)) c.buffer_count-count.ensures c.in_ok-buffers.ensures.read)
