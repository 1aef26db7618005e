-- The rule of the table: between any two steps all loads and stores that were made stand in one history.
use Rattle.std.specs.Prelude.{◌≡◌, ℕ, ◌+◌, ◌<◌, ◌≤◌, false, List, [], ◌∷◌, length}
use mathlib.Core.Option.{Option, none, some}
use lib.ListN.{get_elem?}
use Rattle.atomic_table.specs.Table.{State, Me, Step}
use Rattle.td_words.specs.declared.view.Access.TheVariants.{Load, Store}
use Rattle.td_words.specs.declared.view.SeatView.{SeatView}
use Rattle.td_words.specs.declared.view.HostView.{HostView}
use Rattle.td_words.specs.declared.view.View.{View}
use Rattle.td_words.specs.declared.view.View.TheVariants.{Host, Seat, Spent}
use Rattle.td_words.specs.History.{Entry, memory_after, IsHistory, steps_of}
use Rattle.td_words.specs.Views.{seat_view, host_view, did}
use Rattle.td_words.specs.Gathered.{Ended, Apart, IsHistoryOf}

abbrev pub seat_count : View → ℕ
seat_count (Host h) = 0
seat_count (Seat v) = 1
seat_count Spent = 0

-- how many seats are out
abbrev pub seats_out : List View → ℕ
seats_out [] = 0
seats_out (v ∷ vs) = seat_count v + seats_out vs

-- a seat with these steps is of this table, and its steps are those under its number in the history
abbrev pub IsInHistory : List ℕ → ℕ → List Entry → SeatView → Type 0
IsInHistory opened made log v = (v.opened ≡ opened) × (v.number < made) × (steps_of v.number log ≡ v.steps)

-- what the rule says of the view at the place j
abbrev pub IsPlaced : ℕ → List ℕ → ℕ → List SeatView → (ℕ → Option ℕ) → List Entry → ℕ → View → Type 0
IsPlaced host opened made ended place_of log j (Host h) = (j ≡ host) × (h ≡ host_view opened made ended)
IsPlaced host opened made ended place_of log j (Seat v) = IsInHistory opened made log v × (place_of v.number ≡ some j)
IsPlaced host opened made ended place_of log j Spent = Unit {0}

-- the seat of the number n is out, at this place among the views, or it was gathered
abbrev pub IsHeld : List View → List SeatView → ℕ → Option ℕ → Type 0
IsHeld views ended n (some j) = (v : SeatView) × (get_elem? views j ≡ some (Seat v)) × (v.number ≡ n)
IsHeld views ended n none = Ended ended n

-- the table's word 0 is 0, and its others are what the history leaves of the opening words. One view is the host's. Each
-- seat made has a number of its own below `made`, and is either out or gathered; place_of tells where those that are out
-- stand. No other number has a step
pub record KeepsHistory {S : Type 0} (s : State S View) : Type 0 where
  pub log : List Entry
  pub opened : List ℕ
  pub host : ℕ
  pub made : ℕ
  pub ended : List SeatView
  pub place_of : ℕ → Option ℕ
  pub words : s.words ≡ 0 ∷ memory_after opened log
  pub legal : IsHistory opened log
  pub one_host : get_elem? s.views host ≡ some (Host (host_view opened made ended))
  pub each : (j : ℕ) (v : View) → get_elem? s.views j ≡ some v → IsPlaced host opened made ended place_of log j v
  pub each_ended : (k : ℕ) (v : SeatView) → get_elem? ended k ≡ some v → IsInHistory opened made log v × (place_of v.number ≡ none)
  pub apart : Apart ended
  pub held : (n : ℕ) → n < made → IsHeld s.views ended n (place_of n)
  pub none_else : (n : ℕ) → made ≤ n → steps_of n log ≡ []
  pub count : seats_out s.views + length ended ≡ made

-- what a seat of the table has: its view, and the slots that it holds (always none here)
abbrev pub Holding : Type 0 → Type 0
Holding S = Me S View

-- the view of a guest's or a reader's seat
abbrev pub seat_in : View → SeatView
seat_in (Host h) = seat_view [] 0 false []
seat_in (Seat v) = v
seat_in Spent = seat_view [] 0 false []

-- the view of the host's seat
abbrev pub host_in : View → HostView
host_in (Host h) = h
host_in (Seat v) = host_view [] 0 []
host_in Spent = host_view [] 0 []

abbrev pub IsSeat : {S : Type 0} → Holding S → Type 0
IsSeat {S} m = m ≡ (Seat (seat_in m.0), [])

abbrev pub IsHost : {S : Type 0} → Holding S → Type 0
IsHost {S} m = m ≡ (Host (host_in m.0), [])

-- what a load tells: the seat has just that load more
abbrev pub Loaded : {S : Type 0} → Step S → Holding S → ℕ → Holding S → Type 0
Loaded s m found m' = (i : ℕ) → s.word ≡ i + 1 → m' ≡ (Seat (did (seat_in m.0) (Load i found)), [])

-- what a store tells: the seat has just that store more
abbrev pub Stored : {S : Type 0} → Step S → Holding S → ℕ → Holding S → Type 0
Stored s m new m' = (i : ℕ) → s.word ≡ i + 1 → m' ≡ (Seat (did (seat_in m.0) (Store i new)), [])

-- what the host's load of word 0 tells: its view is the same, and there is one history
abbrev pub Learned : {S : Type 0} → Step S → Holding S → ℕ → Holding S → Type 0
Learned s m found m' = (m' ≡ m) × ((log : List Entry) × IsHistoryOf (host_in m.0) log)
