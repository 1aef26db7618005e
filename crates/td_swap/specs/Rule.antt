-- The rule of the version word: what it and the seats' views are between any two steps.
use Rattle.std.specs.Prelude.{◌≡◌, ℕ, ◌+◌, ◌<◌, [], ◌∷◌, ◌++◌}
use Rattle.std.specs.List.{All}
use mathlib.Core.Option.{some}
use lib.ListN.{get_elem?}
use Rattle.atomic_table.specs.Table.{State, Me, Step}
use Rattle.td_swap.specs.declared.view.PublisherView.{PublisherView}
use Rattle.td_swap.specs.declared.view.SwapView.{SwapView}
use Rattle.td_swap.specs.declared.view.View.{View}
use Rattle.td_swap.specs.declared.view.View.TheVariants.{Publisher, Swap, Spent}
use Rattle.td_swap.specs.Views.{publisher_view, swap_view, did_load, IsVersionRun}

-- what the rule says of the view at the place j: there is one publisher; all have one count; and no list of numbers that were
-- loaded falls, or has one above the word
abbrev pub IsPlaced : ℕ → ℕ → ℕ → ℕ → ℕ → View → Type 0
IsPlaced publisher count made word j (Publisher v n) = (j ≡ publisher) × (v ≡ publisher_view count word) × (n ≡ made)
IsPlaced publisher count made word j (Swap v) = (v.count ≡ count) × IsVersionRun (word + 1) v.loads × All (IsVersionRun (word + 1)) v.ended
IsPlaced publisher count made word j Spent = Unit {0}

-- the word is the number in the one publisher's view, and below the count
pub record KeepsVersions {S : Type 0} (s : State S View) : Type 0 where
  pub count : ℕ
  pub publisher : ℕ
  pub made : ℕ
  pub word : ℕ
  pub words : s.words ≡ word ∷ []
  pub below : word < count
  pub one_publisher : get_elem? s.views publisher ≡ some (Publisher (publisher_view count word) made)
  pub each : (j : ℕ) (v : View) → get_elem? s.views j ≡ some v → IsPlaced publisher count made word j v

-- what a seat of the table has: its view, and the slots that it holds (always none here)
abbrev pub Holding : Type 0 → Type 0
Holding S = Me S View

-- the view of the publisher's seat
abbrev pub publisher_in : View → PublisherView
publisher_in (Publisher v n) = v
publisher_in (Swap v) = publisher_view 0 0
publisher_in Spent = publisher_view 0 0

-- how many seats it made
abbrev pub made_in : View → ℕ
made_in (Publisher v n) = n
made_in (Swap v) = 0
made_in Spent = 0

-- the view of a seat that loads
abbrev pub swap_in : View → SwapView
swap_in (Publisher v n) = swap_view 0 0 [] []
swap_in (Swap v) = v
swap_in Spent = swap_view 0 0 [] []

-- a publisher that made the first of the seats that load, and no other
abbrev pub IsPublisher : {S : Type 0} → Holding S → Type 0
IsPublisher {S} m = m ≡ (Publisher (publisher_in m.0) 1, [])

abbrev pub IsSwap : {S : Type 0} → Holding S → Type 0
IsSwap {S} m = m ≡ (Swap (swap_in m.0), [])

-- what a publication tells: the publisher's number is the one that was stored, and it was less before
abbrev pub Published : {S : Type 0} → Step S → Holding S → ℕ → Holding S → Type 0
Published s m new m' = (m' ≡ (Publisher (publisher_view (publisher_in m.0).count new) 1, [])) × ((publisher_in m.0).number < new)

-- what a load tells: the seat has just that number more; it is a version's, and the seat's numbers never fall
abbrev pub LoadedVersion : {S : Type 0} → Step S → Holding S → ℕ → Holding S → Type 0
LoadedVersion s m found m' =
    (m' ≡ (Swap (did_load (swap_in m.0) found), []))
    × (found < (swap_in m.0).count)
    × IsVersionRun (swap_in m.0).count ((swap_in m.0).loads ++ found ∷ [])
