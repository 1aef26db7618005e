-- What each seat knows, and how that changes (own rule).
use Rattle.std.specs.Prelude.{ℕ, ◌+◌, ◌<◌, List, [], ◌∷◌, ◌++◌}
use Rattle.std.specs.List.{All}
use Rattle.std.specs.List.Sorted.{IsNonDecreasing}
use Rattle.td_swap.specs.declared.view.PublisherView.{PublisherView}
use Rattle.td_swap.specs.declared.view.SwapView.{SwapView}

abbrev pub publisher_view : ℕ → ℕ → PublisherView
publisher_view count number = record { count = count; number = number }

abbrev pub swap_view : ℕ → ℕ → List ℕ → List (List ℕ) → SwapView
swap_view count made loads ended = record { count = count; made = made; loads = loads; ended = ended }

-- a seat that loaded nothing yet
abbrev pub new_view : ℕ → SwapView
new_view count = swap_view count 0 [] []

-- the seat made another, too
abbrev pub one_more : SwapView → SwapView
one_more v = swap_view v.count (v.made + 1) v.loads v.ended

-- the seat loaded this number, too
abbrev pub did_load : SwapView → ℕ → SwapView
did_load v n = swap_view v.count v.made (v.loads ++ n ∷ []) v.ended

-- the seat gathered another: the other's own list, and then those that were gathered into that; what that one made counts, too
abbrev pub with_ended : SwapView → SwapView → SwapView
with_ended v w = swap_view v.count (v.made + w.made) v.loads (v.ended ++ w.loads ∷ w.ended)

-- numbers that never fall, each below this count
abbrev pub IsVersionRun : ℕ → List ℕ → Type 0
IsVersionRun count numbers = IsNonDecreasing numbers × All (λ (n : ℕ). n < count) numbers

-- the numbers that the seat loaded, and those of each seat gathered into it, never fall, and are of versions
abbrev pub AreVersions : SwapView → Type 0
AreVersions v = IsVersionRun v.count v.loads × All (IsVersionRun v.count) v.ended
