-- A message carries the loads of the words that it fills, where nobody stores to them.
use Rattle.std.proofs.Common.{◌≡◌, ◌↔◌, ℕ, zero, suc, ◌+◌, ◌*◌, ◌≤◌, List, [], ◌∷◌, None, length, slice_index, refl, sym, subst, ap, ◌∙◌, arith}
use Rattle.std.specs.List.{All}
use Rattle.std.proofs.lemmas.List.Elements.{All-nil, All-cons}
use Rattle.td_num.specs.Numbers.{byte_of}
use Rattle.td_job.specs.Words.{IsFilled}
use Rattle.td_stream.specs.declared.load.Load.{Load}
use Rattle.td_stream.specs.Layouts.{plain}
use Rattle.td_stream.specs.Loads.{Carries, buffered}
use Rattle.td_stream.specs.Laws.{AgreesPlain}
use Rattle.td_sched.specs.declared.store.PlannedStore.{PlannedStore}
use Rattle.td_sched.specs.Plan.{ArePlanned, at, up_to}
use Rattle.td_sched.specs.View.{PlannedView}
use Rattle.td_job.proofs.Bytes.{byte_there}

no_stores : (k : ℕ) → up_to k [] ≡ []
no_stores zero = refl
no_stores (suc k) = rw (no_stores k) refl

as_opened : (words : List ℕ) (k i : ℕ) → at words [] k i ≡ slice_index words i
as_opened words k i = rw (no_stores k) refl

agrees : (message words : List ℕ) (n : ℕ) (l : Load) → IsFilled message n words → length message ≤ 8 * length words → l.value ≡ slice_index words l.word → AgreesPlain message l
agrees message words n l filled enough value = λ k small inside.
    sym (filled.same (8 * l.word + k) (omega arith)) ∙ byte_there words l.word k small ∙ ap (λ v. byte_of v k) (sym value)

all_agree : (message words : List ℕ) (n k : ℕ) (loads : List Load) → IsFilled message n words → length message ≤ 8 * length words → ArePlanned words [] k loads → All (AgreesPlain message) loads
all_agree message words n k [] filled enough planned = All-nil (AgreesPlain message)
all_agree message words n k (l ∷ loads) filled enough planned =
    All-cons (AgreesPlain message) l loads
    (agrees message words n l filled enough (planned.0 ∙ as_opened words k l.word))
    (all_agree message words n (suc k) loads filled enough planned.1)

-- so it carries what was loaded of memory that was opened on these words without stores
pub carried : (message words : List ℕ) (n : ℕ) (v w : PlannedView) (loads : List Load)
    → ArePlanned v.opening v.stores 0 (buffered v.layout w.loads) → v.opening ≡ words → v.stores ≡ [] → v.layout ≡ None → w.loads ≡ loads
    → IsFilled message n words → length message ≤ 8 * length words
    → (Carries (plain (length message)) message loads ↔ ((length message ≡ length message) × All (AgreesPlain message) loads))
    → Carries (plain (length message)) message loads
carried message words n v w loads planned opened none whole made filled enough law =
    let played : ArePlanned words [] 0 loads =
    subst (λ (x : List ℕ × List PlannedStore × List Load). ArePlanned x.0 x.1 0 x.2) (λ i. (opened i, none i, buffered (whole i) (made i))) planned in
    law.1 (refl, all_agree message words n 0 loads filled enough played)
