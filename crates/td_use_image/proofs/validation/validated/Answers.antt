use Rattle.std.proofs.Common.{ℕ, List, subst, sym}
use Rattle.td_core.specs.declared.outcome.Outcome.{Outcome}
use Rattle.td_stream.specs.declared.stretch.Stretch.{Stretch}
use Rattle.td_run.specs.Validation.{IsValidation}
use Rattle.td_use_image.proofs.validation.validated.Goals as goal

-- the cells were set, the layout is a plain one, and the outcome is what the frame was left with
pub returns : goal.returns
returns c =
    let done = c.validate_compiled-verdict in
    subst (λ (x : List ℕ × List Stretch × Outcome). IsValidation c.args.code.now c.args.entry c.args.args.now x.0 x.1 done.new.words.loads.list x.2)
    (λ i. (c.set_cells.ensures.cells i, c.plain-layout.ensures.layout i, sym c.into_outcome.ensures i)) done.ensures.validated
