-- What is counted over the values of a job, step by step and guest by guest.
use Rattle.std.proofs.Common.{◌≡◌, ℕ, ◌+◌, ◌<◌, ◌≤◌, List, [], ◌∷◌, length, drop, get_or, Some, None, ap, ◌∙◌, arith}
use Rattle.std.proofs.lemmas.List.{at_drop_more, at_drop_all}
use Rattle.std.proofs.lemmas.List.Sums.{sum_by-append, sum_by-cons}
use Rattle.std.specs.List.{sum_by}
use Rattle.std.specs.Prelude.{min}
use Rattle.serde_json.specs.View.{view, items_view}
use Rattle.serde_json.specs.declared.value.Value.{Value}
use Rattle.td_job.specs.Jobs.{spelled_word}
use Rattle.td_job_host.specs.Imports.{Step, Store}
use Rattle.td_job_host.specs.declared.totals.Total.{Total}
use Rattle.td_job_host.specs.Steps.{spelled_step, store_with, store_in, step_in, each_step}
use Rattle.td_job_host.specs.Guests.{given_script, each_script}
use Rattle.td_job_host.specs.Rings.{given_ring, each_ring}
use Rattle.td_job_host.specs.Totals.{weight, ring_weight}

-- what one step counts
alone : (what : Total) (s : Step) (n : ℕ) → n ≡ weight what s → n ≡ sum_by (weight what) (s ∷ [])
alone what s n h =
    let one : sum_by (weight what) (s ∷ []) ≡ weight what s + 0 = sum_by-cons (weight what) s [] in
    omega (arith, one, h)

pub store_counts : (what : Total) (word value n : ℕ) (text : List ℕ) → Some value ≡ spelled_word text → n ≡ weight what (Store word value)
    → n ≡ sum_by (weight what) (store_in word text)
store_counts what word value n text same h = alone what (Store word value) n h ∙ ap (λ v. sum_by (weight what) (store_with word v)) same

pub no_store_counts : (what : Total) (word : ℕ) (text : List ℕ) → None ≡ spelled_word text → 0 ≡ sum_by (weight what) (store_in word text)
no_store_counts what word text same = ap (λ v. sum_by (weight what) (store_with word v)) same

-- what the steps from a place on count
abbrev pub steps_from : Total → List Value → ℕ → ℕ
steps_from what values i = sum_by (weight what) (each_step (items_view (drop i values)))

pub one_step : (what : Total) (values : List Value) (i : ℕ) (d : Value) → i < length values
    → steps_from what values i ≡ sum_by (weight what) (step_in (spelled_step (view (get_or values i d)))) + steps_from what values (i + 1)
one_step what values i d h =
    at_drop_more (λ vs. sum_by (weight what) (each_step (items_view vs))) values i d h
    ∙ sum_by-append (weight what) (step_in (spelled_step (view (get_or values i d)))) (each_step (items_view (drop (i + 1) values)))

pub no_steps : (what : Total) (values : List Value) (i : ℕ) → length values ≤ i → steps_from what values i ≡ 0
no_steps what values i h = at_drop_all (λ vs. sum_by (weight what) (each_step (items_view vs))) values i h

-- what the scripts of the guests from a place on count
abbrev pub guests_from : Total → List Value → ℕ → ℕ
guests_from what values i = sum_by (sum_by (weight what)) (each_script (items_view (drop i values)))

pub one_guest : (what : Total) (values : List Value) (i : ℕ) (d : Value) → i < length values
    → guests_from what values i ≡ sum_by (weight what) (given_script (view (get_or values i d))) + guests_from what values (i + 1)
one_guest what values i d h =
    at_drop_more (λ vs. sum_by (sum_by (weight what)) (each_script (items_view vs))) values i d h
    ∙ sum_by-cons (sum_by (weight what)) (given_script (view (get_or values i d))) (each_script (items_view (drop (i + 1) values)))

pub no_guests : (what : Total) (values : List Value) (i : ℕ) → length values ≤ i → guests_from what values i ≡ 0
no_guests what values i h = at_drop_all (λ vs. sum_by (sum_by (weight what)) (each_script (items_view vs))) values i h

-- what the rings from a place on count
abbrev pub rings_from : Total → List Value → ℕ → ℕ
rings_from what values i = sum_by (ring_weight what) (each_ring (items_view (drop i values)))

pub one_ring : (what : Total) (values : List Value) (i : ℕ) (d : Value) → i < length values
    → rings_from what values i ≡ ring_weight what (given_ring (view (get_or values i d))) + rings_from what values (i + 1)
one_ring what values i d h =
    at_drop_more (λ vs. sum_by (ring_weight what) (each_ring (items_view vs))) values i d h
    ∙ sum_by-cons (ring_weight what) (given_ring (view (get_or values i d))) (each_ring (items_view (drop (i + 1) values)))

pub no_rings : (what : Total) (values : List Value) (i : ℕ) → length values ≤ i → rings_from what values i ≡ 0
no_rings what values i h = at_drop_all (λ vs. sum_by (ring_weight what) (each_ring (items_view vs))) values i h

-- one more part of a sum that stops at the most
pub one_more : (most sum after one rest whole : ℕ) → after ≡ min (sum + one) most → whole ≡ one + rest → min (after + rest) most ≡ min (sum + whole) most
one_more most sum after one rest whole added parts = omega arith

-- the same of a part that itself stops there
pub one_part_more : (most sum after part one rest whole : ℕ) → after ≡ min (sum + part) most → part ≡ min one most → whole ≡ one + rest → min (after + rest) most ≡ min (sum + whole) most
one_part_more most sum after part one rest whole added stops parts = omega arith

-- and its end
pub at_end : (most sum rest : ℕ) → sum ≤ most → rest ≡ 0 → sum ≡ min (sum + rest) most
at_end most sum rest small none = omega arith
