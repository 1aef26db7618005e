use Rattle.std.proofs.Common.{List, [], ap, ◌∙◌}
use Rattle.std.proofs.lemmas.List.{append-nil}
use Rattle.td_limits.specs.Imports.{Def}
use Rattle.td_limits.specs.Excesses.{first_excess}
use Rattle.td_limits.specs.Counts.{count_excesses}
use Rattle.td_limits.proofs.counts.counts_passed.Goals as goal

pub returns-in-Ok : goal.returns-in-Ok
returns-in-Ok c = c.in-Ok.ensures.passed [] ∙ ap (λ (ds : List Def). first_excess (count_excesses 0 0 ds)) (append-nil c.as_slice.result.now ∙ c.as_slice.ensures)

pub returns-in-Err : goal.returns-in-Err
returns-in-Err c = c.in-Err.ensures.passed [] ∙ ap (λ (ds : List Def). first_excess (count_excesses 0 0 ds)) (append-nil c.as_slice.result.now ∙ c.as_slice.ensures)
