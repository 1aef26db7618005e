-- The rings of a job without a fault lie in the buffer, and are few.
use Rattle.std.proofs.Common.{◌≡◌, ℕ, zero, suc, ◌+◌, ◌*◌, ◌<◌, ◌≤◌, List, [], ◌∷◌, length, false, ◌||◌, nat_eq, nat_lt, Option, Some, None, refl, ap, arith}
use Rattle.std.proofs.lemmas.Bool.Decides.{nat_tests}
use Rattle.std.proofs.lemmas.List.Elements.{All-nil, All-cons}
use Rattle.std.proofs.lemmas.List.Sums.{sum_by-cons}
use Rattle.std.specs.List.{All, sum_by}
use Rattle.std.specs.Prelude.{option_and_then}
use Rattle.serde_json.specs.Data.{Data, Items, no_items, item, Members}
use Rattle.serde_json.specs.Events.{items_len}
use Rattle.serde_json.specs.Find.{as_object, as_array}
use Rattle.td_job.specs.declared.error.Key.TheVariants as key
use Rattle.td_job_host.specs.Imports.{Fault, Path, RingJob}
use Rattle.td_job.specs.declared.error.JobRule.TheVariants as rule
use Rattle.td_job.specs.declared.error.Path.TheVariants as path
use Rattle.td_job.specs.Fields.{fault_if}
use Rattle.td_job.proofs.Numbers.{both_empty, not_over}
use Rattle.td_posts.specs.declared.limits.TheConstants.{MOST_RINGS, MOST_ENTRIES, MOST_RING_MESSAGE, MOST_TAKES}
use Rattle.td_posts.specs.Servable.{IsRingWithin, ring_message_words}
use Rattle.td_job_host.specs.declared.totals.Total.TheVariants.{Words}
use Rattle.td_job_host.specs.Rings.{is_past, is_past_limit, place_faults, ring_faults_by, ring_faults, given_ring, each_ring_faults, ring_list_faults, rings_faults, each_ring, listed_rings}
use Rattle.td_job_host.specs.Totals.{ring_weight}

place_within : (words : ℕ) (place : Path) (ring : RingJob) → place_faults words place ring ≡ [] → IsRingWithin words ring
place_within words place ring h =
    let both = both_empty (fault_if (is_past words ring) (Fault rule.PastBytes place)) (fault_if (is_past_limit ring) (Fault rule.Limit place)) h in
    let here : is_past words ring ≡ false = not_over _ (Fault rule.PastBytes place) both.0 in
    let few : is_past_limit ring ≡ false = not_over _ (Fault rule.Limit place) both.1 in
    record {
      inside = grind (arith, nat_tests, here);
      some_entry = grind (arith, nat_tests, few);
      few_entries = grind (arith, nat_tests, few);
      short = grind (arith, nat_tests, few);
      few_takes = grind (arith, nat_tests, few);
    }

ring_within : (words ring : ℕ) (value : Data) → ring_faults words ring value ≡ [] → IsRingWithin words (given_ring value)
ring_within words ring value h = by_members (as_object value) h
  where
    by_members : (o : Option Members) → ring_faults_by words ring value o ≡ [] → IsRingWithin words (given_ring value)
    by_members None h = absurd (cc)
    by_members (Some ms) h = let both = both_empty _ _ h in place_within words (path.Element key.Rings ring) (given_ring value) both.1

each_within : (words ring : ℕ) (values : Items) → each_ring_faults words ring values ≡ [] → All (IsRingWithin words) (each_ring values)
each_within words ring no_items h = All-nil (IsRingWithin words)
each_within words ring (item value values) h =
    let both = both_empty _ _ h in
    All-cons (IsRingWithin words) (given_ring value) (each_ring values) (ring_within words ring value both.0) (each_within words (ring + 1) values both.1)

as_many : (values : Items) → length (each_ring values) ≡ items_len values
as_many no_items = refl
as_many (item value values) = ap suc (as_many values)

-- these rings are few, and each is within so many words
pub record FewRings (words : ℕ) (rings : List RingJob) : Type 0 where
  pub few : length rings ≤ MOST_RINGS
  pub within : All (IsRingWithin words) rings

pub rings_within : (words : ℕ) (value : Option Data) → rings_faults words value ≡ [] → FewRings words (listed_rings (option_and_then as_array value))
rings_within words None h = record { few = omega arith; within = All-nil (IsRingWithin words) }
rings_within words (Some value) h = by_list (as_array value) h
  where
    by_list : (list : Option Items) → ring_list_faults words list ≡ [] → FewRings words (listed_rings list)
    by_list None h = absurd (cc)
    by_list (Some values) h =
        let both = both_empty _ _ h in
        let many = as_many values in
        let few : nat_lt MOST_RINGS (items_len values) ≡ false = not_over _ (Fault rule.Limit (path.Whole key.Rings)) both.0 in
        let limit : items_len values ≤ MOST_RINGS = grind (arith, nat_tests, few) in
        record { few = omega (arith, many, limit); within = each_within words 0 values both.1 }

-- what rings count into the words is what their takes' messages can have
pub ring_words_counted : (rings : List RingJob) → sum_by ring_message_words rings ≡ sum_by (ring_weight Words) rings
ring_words_counted [] = refl
ring_words_counted (ring ∷ rings) =
    let later = ring_words_counted rings in
    let one : sum_by ring_message_words (ring ∷ rings) ≡ ring_message_words ring + sum_by ring_message_words rings = sum_by-cons ring_message_words ring rings in
    let other : sum_by (ring_weight Words) (ring ∷ rings) ≡ ring_message_words ring + sum_by (ring_weight Words) rings = sum_by-cons (ring_weight Words) ring rings in
    omega (arith, later, one, other)
