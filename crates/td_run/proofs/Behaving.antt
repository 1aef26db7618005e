-- The outcome of code that does what a module means is the module's. Cited by other crates.
use Rattle.std.proofs.Common.{◌≡◌, ℕ, List, refl, sym, ap, ◌∙◌, subst, Some}
use Rattle.std.proofs.lemmas.Option.{same_Some}
use Rattle.td_run.specs.Imports.{Load, Stretch, Outcome}
use Rattle.td_stream.specs.Loads.{Exactly}
use Rattle.td_core.specs.Outcome.{Behavior, Ending, Accepted, Rejected, outcome_of}
use Rattle.td_ir.specs.State.{Exit}
use Rattle.td_fetch.specs.Outcomes.{IsBehaviorOf}
use Rattle.td_vm.specs.Outcomes.{IsCodeRun}
use Rattle.td_vm.specs.Outcomes as run
use Rattle.td_lower_means.specs.CodeRun.{way_of, IsMeaning}

pub same_outcome : (n : ℕ) (b : List ℕ) (e : Ending) → run.outcome_of n b (way_of e) ≡ Some (outcome_of n b e)
same_outcome n b (Accepted position cells) = refl
same_outcome n b (Rejected reason position trace cells) = refl

pub behaves : (layout : List Stretch) (n : ℕ) (b : List ℕ) (loads : List Load) (exit : Exit) (behavior : Behavior) (outcome : Outcome) (before after : ℕ) → IsCodeRun layout n b loads exit outcome before after → IsMeaning exit behavior → IsBehaviorOf layout n b loads behavior outcome
behaves layout n b loads exit behavior outcome before after r m = record {
  same = same_Some (outcome_of n b behavior.ending) outcome (sym (same_outcome n b behavior.ending) ∙ sym (ap (run.outcome_of n b) m.way) ∙ r.outcome_is);
  exact = subst (Exactly layout loads) m.touched r.exact;
}
