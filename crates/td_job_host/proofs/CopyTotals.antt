-- The total of the bytes of all copy buffers: as many for each post and each take.
use Rattle.std.proofs.Common.{◌≡◌, ℕ, zero, suc, ◌+◌, ◌*◌, ◌-◌, ◌<◌, ◌≤◌, ◌^◌, List, [], ◌∷◌, map, Bool, true, nat_lt, inl, inr, refl, sym, ap, ◌∙◌, arith}
use Rattle.std.specs.Prelude.{min}
use Rattle.std.specs.List.{sum_by}
use Rattle.std.proofs.lemmas.Bool.{cases_order, lt-ltb}
use Rattle.std.proofs.lemmas.List.Sums.{sum_by-cons}
use Rattle.td_job.specs.declared.error.Key.TheVariants as key
use Rattle.td_job_host.specs.Imports.{Fault, Step, Store, Post, Scatter, RingJob}
use Rattle.td_job.specs.declared.error.JobRule.TheVariants as rule
use Rattle.td_job.specs.declared.error.Path.TheVariants as path
use Rattle.td_job.specs.Fields.{fault_if}
use Rattle.td_posts.specs.declared.limits.TheConstants.{MOST_COPIED_BYTES}
use Rattle.td_job_host.specs.declared.totals.Total.{Total}
use Rattle.td_job_host.specs.declared.totals.Total.TheVariants.{Posts, Copies}
use Rattle.td_job_host.specs.Totals.{weight, ring_weight, total, total_fault}

-- a + b times c
both_times : (a b c : ℕ) → (a + b) * c ≡ a * c + b * c
both_times a b zero = omega arith
both_times a b (suc c) =
    let rest = both_times a b c in
    let one : (a + b) * suc c ≡ (a + b) * c + (a + b) = omega arith in
    let left : a * suc c ≡ a * c + a = omega arith in
    let right : b * suc c ≡ b * c + b = omega arith in
    omega (arith, rest, one, left, right)

-- what stands for each is a number of times what stands for one
scaled : {A : Type 0} (f g : A → ℕ) (room : ℕ) → ((x : A) → f x ≡ g x * room) → (xs : List A) → sum_by f xs ≡ sum_by g xs * room
scaled f g room each [] = omega arith
scaled f g room each (x ∷ xs) =
    sum_by-cons f x xs
    ∙ (λ i. each x i + scaled f g room each xs i)
    ∙ sym (both_times (g x) (sum_by g xs) room)
    ∙ ap (λ n. n * room) (sym (sum_by-cons g x xs))

step_scaled : (room : ℕ) (s : Step) → weight (Copies room) s ≡ weight Posts s * room
step_scaled room (Store word value) = omega arith
step_scaled room (Post base length) = omega arith
step_scaled room (Scatter layout) = omega arith

pub copies_total : (room : ℕ) (guests : List (List Step)) (rings : List RingJob)
    → total (Copies room) guests rings ≡ (sum_by (sum_by (weight Posts)) guests + sum_by (λ (ring : RingJob). ring.takes) rings) * room
copies_total room guests rings =
    let posts = scaled (sum_by (weight (Copies room))) (sum_by (weight Posts)) room (scaled (weight (Copies room)) (weight Posts) room (step_scaled room)) guests in
    let takes = scaled (ring_weight (Copies room)) (λ (ring : RingJob). ring.takes) room (λ ring. refl) rings in
    (λ i. posts i + takes i) ∙ sym (both_times (sum_by (sum_by (weight Posts)) guests) (sum_by (λ (ring : RingJob). ring.takes) rings) room)

-- where a room is past 64 bits, so many and more are past the most, or there is nothing to copy
past_alike : (n room : ℕ) → 2 ^ 64 - 1 < room → nat_lt MOST_COPIED_BYTES (n * (2 ^ 64 - 1)) ≡ nat_lt MOST_COPIED_BYTES (n * room)
past_alike zero room past = let none : zero * (2 ^ 64 - 1) ≡ zero * room = omega arith in ap (nat_lt MOST_COPIED_BYTES) none
past_alike (suc n) room past =
    let at_least : room ≤ suc n * room = more n room in
    lt-ltb MOST_COPIED_BYTES (suc n * (2 ^ 64 - 1)) (omega arith) ∙ sym (lt-ltb MOST_COPIED_BYTES (suc n * room) (omega (arith, past, at_least)))
  where
    more : (n room : ℕ) → room ≤ suc n * room
    more n room = let one : suc n * room ≡ n * room + room = omega arith in omega (arith, one)

alike : (n room : ℕ) → nat_lt MOST_COPIED_BYTES (n * min room (2 ^ 64 - 1)) ≡ nat_lt MOST_COPIED_BYTES (n * room)
alike n room = elim (cases_order room (2 ^ 64 - 1)) [
  | inl same ↦ ap (λ r. nat_lt MOST_COPIED_BYTES (n * r)) (let r : min room (2 ^ 64 - 1) ≡ room = omega (arith, same) in r)
  | inr other ↦ elim other [
    | inl less ↦ ap (λ r. nat_lt MOST_COPIED_BYTES (n * r)) (let r : min room (2 ^ 64 - 1) ≡ room = omega (arith, less) in r)
    | inr more ↦ ap (λ r. nat_lt MOST_COPIED_BYTES (n * r)) (let r : min room (2 ^ 64 - 1) ≡ 2 ^ 64 - 1 = omega (arith, more) in r) ∙ past_alike n room more
  ]
]

-- so the total is too much exactly where that of rooms of 64 bits is
pub same_fault : (room : ℕ) (guests : List (List Step)) (rings : List RingJob) → total_fault (Copies (min room (2 ^ 64 - 1))) guests rings ≡ total_fault (Copies room) guests rings
same_fault room guests rings =
    let n = sum_by (sum_by (weight Posts)) guests + sum_by (λ (ring : RingJob). ring.takes) rings in
    let cut = min room (2 ^ 64 - 1) in
    let tests : nat_lt MOST_COPIED_BYTES (total (Copies cut) guests rings) ≡ nat_lt MOST_COPIED_BYTES (total (Copies room) guests rings) =
    ap (nat_lt MOST_COPIED_BYTES) (copies_total cut guests rings) ∙ alike n room ∙ ap (nat_lt MOST_COPIED_BYTES) (sym (copies_total room guests rings)) in
    ap (λ (b : Bool). fault_if b (Fault rule.Limit (path.Whole key.Copies))) tests
