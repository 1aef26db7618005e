-- Lists of stores, by their lengths. Cited by other crates.
use Rattle.std.proofs.Common.{◌≡◌, ℕ, suc, ◌<◌, ◌≤◌, List, [], ◌∷◌, ◌++◌, length, Bool, true, false, nat_lt, Some, None, refl, ap, arith}
use Rattle.std.proofs.lemmas.Bool.Decides.{nat_tests}
use Rattle.serde_json.specs.Events.{items_len}
use Rattle.serde_json.specs.View.{items_view}
use Rattle.serde_json.specs.declared.value.Value.{Value}
use Rattle.td_job.specs.declared.error.Key.TheVariants as key
use Rattle.td_job.specs.declared.error.Path.TheVariants as path
use Rattle.td_job.specs.declared.error.JobError.{JobError}
use Rattle.td_job.specs.declared.error.JobRule.TheVariants as rule
use Rattle.td_job.specs.declared.error.JobError.TheVariants.{Fault}
use Rattle.td_job.specs.declared.stores.TheConstants.{MOST_STORES}
use Rattle.td_job.specs.Fields.{IsFirst, fault_if}
use Rattle.td_job.specs.Jobs.{three_parts, plan_faults, each_store_faults}

-- a list of another length than three has no parts
pub other_count : (values : List Value) → (length values ≡ 3 → ⊥) → None ≡ three_parts (items_view values)
other_count [] h = refl
other_count (a ∷ []) h = refl
other_count (a ∷ b ∷ []) h = refl
other_count (a ∷ b ∷ c ∷ []) h = absurd (h refl)
other_count (a ∷ b ∷ c ∷ d ∷ values) h = refl

-- as many data as values
pub same_count : (values : List Value) → items_len (items_view values) ≡ length values
same_count [] = refl
same_count (value ∷ values) = ap suc (same_count values)

pub limited : (many : Bool) (e : JobError) (others : List JobError) → many ≡ true → IsFirst (fault_if many e ++ others) e
limited true e others h = record { others = others; is = refl }
limited false e others h = absurd (cc)

pub unlimited : (many : Bool) (e : JobError) (others : List JobError) → many ≡ false → fault_if many e ++ others ≡ others
unlimited true e others h = absurd (cc)
unlimited false e others h = refl

-- more elements than there may be are the first fault
pub too_many : (words : ℕ) (values : List Value) → MOST_STORES < length values
    → IsFirst (plan_faults words (Some (items_view values))) (Fault rule.Limit (path.Whole key.Stores))
too_many words values h =
    let counted : nat_lt MOST_STORES (items_len (items_view values)) ≡ true = rw (same_count values) (grind (arith, nat_tests, h)) in
    limited (nat_lt MOST_STORES (items_len (items_view values))) (Fault rule.Limit (path.Whole key.Stores)) (each_store_faults words 0 (items_view values)) counted

-- of fewer elements the faults are their own
pub few_enough : (words : ℕ) (values : List Value) → length values ≤ MOST_STORES
    → plan_faults words (Some (items_view values)) ≡ each_store_faults words 0 (items_view values)
few_enough words values h =
    let counted : nat_lt MOST_STORES (items_len (items_view values)) ≡ false = rw (same_count values) (grind (arith, nat_tests, h)) in
    unlimited (nat_lt MOST_STORES (items_len (items_view values))) (Fault rule.Limit (path.Whole key.Stores)) (each_store_faults words 0 (items_view values)) counted
