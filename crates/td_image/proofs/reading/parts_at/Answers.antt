use Rattle.std.proofs.Common.{inr}
use Rattle.std.proofs.lemmas.Result.{err_from_is_err_and}
use Rattle.td_image.specs.Image.{image}
use Rattle.td_image.proofs.reading.parts_at.Goals as goal

pub returns-in_err-parts-clause-rows : goal.returns-in_err-parts-clause-rows
unfolding image
returns-in_err-parts-clause-rows c =
    let p = err_from_is_err_and c.from_residual-in_err-parts.result c.from_residual-in_err-parts.ensures.1 in
    rw (p.1, p.2) (λ ran. inr (
      c.in_ok-counts.counts,
      c.in_ok-counts.rest.now,
      c.in_ok-counts.ensures.read,
      c.in_err-parts.ensures.memory ran,
    ))
