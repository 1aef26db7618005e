-- What is ready, as a set, and what waits, in lists, as the code has them.
use Rattle.std.specs.Prelude.{◌≡◌, ◌⊎◌, ◌<◌, ℕ, Bool, true, false, List, length}
use Rattle.std.specs.List.{list_any}
use Rattle.std.specs.Ordering.{is_eq, nat_cmp}
use Rattle.td_num.specs.Lists.{is_among}
use Rattle.td_front_order.specs.Order.{used_by}
use Rattle.td_front_order.specs.Flags.{is_ready_by}

-- whether a number is one of a set's
abbrev pub is_in : List ℕ → ℕ → Bool
is_in keys k = list_any (λ key. is_eq (nat_cmp k key)) keys

-- those of a set are ready
abbrev pub AreReady : List (List ℕ) → (ℕ → Bool) → List ℕ → Type 0
AreReady graph taken keys = (k : ℕ) → is_in keys k ≡ true → (k < length graph) × (is_ready_by graph taken k ≡ true)

-- k stands in the list of one that it uses, and that isn't taken
pub record IsWaiting (graph : List (List ℕ)) (taken : ℕ → Bool) (waiting : List (List ℕ)) (k : ℕ) : Type 0 where
  pub other : ℕ
  pub used : is_among (used_by graph k) other ≡ true
  pub not_taken : taken other ≡ false
  pub there : is_among (used_by waiting other) k ≡ true

-- k is in the set, or waits
abbrev pub IsListed : List (List ℕ) → (ℕ → Bool) → List (List ℕ) → List ℕ → ℕ → Type 0
IsListed graph taken waiting keys k = (is_in keys k ≡ true) ⊎ IsWaiting graph taken waiting k

-- each that isn't taken is listed, or is one of these
abbrev pub AreListed : List (List ℕ) → (ℕ → Bool) → List (List ℕ) → List ℕ → List ℕ → Type 0
AreListed graph taken waiting keys more = (k : ℕ) → k < length graph → taken k ≡ false → IsListed graph taken waiting keys k ⊎ (is_among more k ≡ true)
