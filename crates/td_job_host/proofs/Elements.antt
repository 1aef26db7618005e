-- Lists of steps and guests, by their lengths.
use Rattle.std.proofs.Common.{◌≡◌, ℕ, ◌<◌, ◌≤◌, List, [], ◌∷◌, length, Bool, true, false, ◌||◌, nat_eq, nat_lt, Option, Some, None, refl, sym, ap, ◌∙◌, arith}
use Rattle.std.proofs.lemmas.Bool.Decides.{nat_tests}
use Rattle.std.specs.Prelude.{option_and_then}
use Rattle.serde_json.specs.Data.{Data}
use Rattle.serde_json.specs.Find.{as_array}
use Rattle.serde_json.specs.Events.{items_len}
use Rattle.serde_json.specs.View.{items_view}
use Rattle.serde_json.specs.declared.value.Value.{Value}
use Rattle.td_job.specs.declared.error.Key.TheVariants as key
use Rattle.td_job.specs.declared.error.Path.TheVariants as path
use Rattle.td_job.specs.declared.error.JobRule.TheVariants as rule
use Rattle.td_job_host.specs.Imports.{Fault}
use Rattle.td_job.specs.Fields.{IsFirst, fault_if}
use Rattle.td_job.proofs.Elements.{same_count, limited, unlimited}
use Rattle.td_posts.specs.declared.limits.TheConstants.{MOST_GUESTS, MOST_RINGS, MOST_SWAPS}
use Rattle.td_job_host.specs.Steps.{step_parts}
use Rattle.td_job_host.specs.Rings.{rings_faults, ring_list_faults, each_ring_faults, each_ring, listed_rings as rings_in}
use Rattle.td_job_host.specs.Swaps.{swaps_faults, swap_list_faults}
use Rattle.td_job_host.specs.Guests.{guests_faults, each_guest_faults}

-- a list of another length than two or three has no parts
pub other_count : (values : List Value) → (length values ≡ 2 → ⊥) → (length values ≡ 3 → ⊥) → None ≡ step_parts (items_view values)
other_count [] two three = refl
other_count (a ∷ []) two three = refl
other_count (a ∷ b ∷ []) two three = absurd (two refl)
other_count (a ∷ b ∷ c ∷ []) two three = absurd (three refl)
other_count (a ∷ b ∷ c ∷ d ∷ values) two three = refl

-- so many guests are none or too many
abbrev pub past_limit : ℕ → Bool
past_limit count = nat_eq count 0 || nat_lt MOST_GUESTS count

counted : (values : List Value) (test : Bool) → past_limit (length values) ≡ test → past_limit (items_len (items_view values)) ≡ test
counted values test h = ap past_limit (same_count values) ∙ h

pub too_many : (words : ℕ) (values : List Value) → past_limit (length values) ≡ true → IsFirst (guests_faults words (Some (items_view values))) (Fault rule.Limit (path.Whole key.Guests))
too_many words values h = limited (past_limit (items_len (items_view values))) (Fault rule.Limit (path.Whole key.Guests)) (each_guest_faults words 0 (items_view values)) (counted values true h)

pub few_enough : (words : ℕ) (values : List Value) → past_limit (length values) ≡ false → guests_faults words (Some (items_view values)) ≡ each_guest_faults words 0 (items_view values)
few_enough words values h = unlimited (past_limit (items_len (items_view values))) (Fault rule.Limit (path.Whole key.Guests)) (each_guest_faults words 0 (items_view values)) (counted values false h)

-- ---- rings

pub listed_rings : (words : ℕ) (field : Option Data) (value : Data) (values : List Value) → Some value ≡ field → Some (items_view values) ≡ as_array value
    → rings_faults words field ≡ ring_list_faults words (Some (items_view values))
listed_rings words field value values is list = ap (rings_faults words) (sym is) ∙ ap (ring_list_faults words) (sym list)

pub given_as_listed : (field : Option Data) (value : Data) (values : List Value) → Some value ≡ field → Some (items_view values) ≡ as_array value
    → rings_in (option_and_then as_array field) ≡ each_ring (items_view values)
given_as_listed field value values is list = ap (λ (f : Option Data). rings_in (option_and_then as_array f)) (sym is) ∙ ap rings_in (sym list)

abbrev pub many_rings : ℕ → Bool
many_rings count = nat_lt MOST_RINGS count

rings_counted : (values : List Value) (test : Bool) → many_rings (length values) ≡ test → many_rings (items_len (items_view values)) ≡ test
rings_counted values test h = ap many_rings (same_count values) ∙ h

-- more rings than there may be are a fault
pub too_many_rings : (words : ℕ) (values : List Value) → MOST_RINGS < length values → IsFirst (ring_list_faults words (Some (items_view values))) (Fault rule.Limit (path.Whole key.Rings))
too_many_rings words values h =
    limited (many_rings (items_len (items_view values))) (Fault rule.Limit (path.Whole key.Rings)) (each_ring_faults words 0 (items_view values))
    (rings_counted values true (grind (arith, nat_tests, h)))

pub few_rings : (words : ℕ) (values : List Value) → length values ≤ MOST_RINGS → ring_list_faults words (Some (items_view values)) ≡ each_ring_faults words 0 (items_view values)
few_rings words values h =
    unlimited (many_rings (items_len (items_view values))) (Fault rule.Limit (path.Whole key.Rings)) (each_ring_faults words 0 (items_view values))
    (rings_counted values false (grind (arith, nat_tests, h)))

-- ---- swaps

pub listed_swaps : (field : Option Data) (value : Data) (values : List Value) → Some value ≡ field → Some (items_view values) ≡ as_array value → swaps_faults field ≡ swap_list_faults (Some (items_view values))
listed_swaps field value values is list = ap swaps_faults (sym is) ∙ ap swap_list_faults (sym list)

-- more swaps than there may be are a fault
pub too_many_swaps : (values : List Value) → MOST_SWAPS < length values → IsFirst (swap_list_faults (Some (items_view values))) (Fault rule.Limit (path.Whole key.Swaps))
too_many_swaps values h =
    let counted : nat_lt MOST_SWAPS (items_len (items_view values)) ≡ true = rw (same_count values) (grind (arith, nat_tests, h)) in
    record { others = []; is = ap (λ (b : Bool). fault_if b (Fault rule.Limit (path.Whole key.Swaps))) counted }

pub few_swaps : (values : List Value) → length values ≤ MOST_SWAPS → swap_list_faults (Some (items_view values)) ≡ []
few_swaps values h =
    let counted : nat_lt MOST_SWAPS (items_len (items_view values)) ≡ false = rw (same_count values) (grind (arith, nat_tests, h)) in
    ap (λ (b : Bool). fault_if b (Fault rule.Limit (path.Whole key.Swaps))) counted
