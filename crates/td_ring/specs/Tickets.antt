-- The rule of the tickets, and what their seats know and tell (own rule): the numbers drawn are 0, 1, 2 .. modulo 2^64.
use Rattle.std.specs.Prelude.{◌≡◌, ℕ, zero, suc, ◌%◌, ◌^◌, List, [], ◌∷◌, ◌++◌, length, Option, None, Some}
use mathlib.Core.Option as maybe
use Rattle.atomic_table.specs.Table.{State, Me, Step}
use Rattle.atomic_table.specs.Seated.{TableId}
use Rattle.td_ring.specs.declared.roll.Part.{Part}
use Rattle.td_ring.specs.declared.roll.Head.{Head}
use Rattle.td_ring.specs.Roll.{Entry, all_entries, part_of, head_of, Roll}
use Rattle.td_ring.specs.Heads as more
use Rattle.td_ring.specs.Heads.{maybe_of, new_part, with_ended, with_more, AreInLog}
use Rattle.td_ring.specs.declared.view.TicketView.{TicketView}

abbrev pub ticket_view : Option (Head ℕ) → Option (Part ℕ) → TicketView
ticket_view a b = record { head = a; draws = b }

abbrev pub head_in : TicketView → maybe.Option (Head ℕ)
head_in v = maybe_of v.head

abbrev pub part_in : TicketView → maybe.Option (Part ℕ)
part_in v = maybe_of v.draws

-- 0, 1, 2 .. n - 1, each modulo 2^64
abbrev pub counted : ℕ → List ℕ
counted zero = []
counted (suc n) = counted n ++ n % 2 ^ 64 ∷ []

-- between any two steps: the word is how many numbers were drawn, modulo 2^64, and they are 0, 1, 2 .. modulo 2^64
pub record KeepsCount {S : Type 0} (s : State S TicketView) : Type 0 where
  pub log : List (Entry ℕ)
  pub roll : Roll head_in part_in s.views log
  pub word : s.words ≡ length log % 2 ^ 64 ∷ []
  pub numbers : all_entries log ≡ counted (length log)

-- a seat that draws
abbrev pub CanDraw : TicketView → Type 0
CanDraw v = (p : Part ℕ) × (v.draws ≡ Some p)

-- one draw more in the seat's own list
abbrev pub did_draw : TicketView → ℕ → TicketView
did_draw v x = ticket_view v.head (with_more v.draws x)

-- the view of the seat that makes the others, and of one that was gathered
abbrev pub first_view : TicketView
first_view = ticket_view (Some (head_of 1 [])) (Some (part_of 0 []))

abbrev pub no_view : TicketView
no_view = ticket_view None None

-- the head made one more seat, and that seat
abbrev pub one_more : TicketView → TicketView
one_more v = ticket_view (more.one_more v.head) v.draws

abbrev pub new_seat : TicketView → TicketView
new_seat v = ticket_view None (new_part v.head)

-- the head gathered a seat
abbrev pub with_seat : TicketView → TicketView → TicketView
with_seat v w = ticket_view (with_ended v.head w.draws) v.draws

-- whose table a seat is of, and its view
pub record DrawerState : Type 0 where
  pub table : TableId
  pub view : TicketView

abbrev pub drawer_state : TableId → TicketView → DrawerState
drawer_state t v = record { table = t; view = v }

-- the seat with another view
abbrev pub drawer_with : DrawerState → TicketView → DrawerState
drawer_with d v = record { table = d.table; view = v }

-- what a seat of the table has: its view, and the slots that it holds (always none here)
abbrev pub Holding : Type 0 → Type 0
Holding S = Me S TicketView

-- what a draw tells: the seat has just that number more
abbrev pub Drew : {S : Type 0} → Step S → Holding S → ℕ → Holding S → Type 0
Drew s m found m' = m' ≡ (did_draw m.0 found, m.1)

-- all numbers drawn are 0, 1, 2 .. modulo 2^64, each once, and those of the seats stand under their numbers
pub record Drawn (v : TicketView) (log : List (Entry ℕ)) : Type 0 where
  pub numbers : all_entries log ≡ counted (length log)
  pub seats : (h : Head ℕ) (p : Part ℕ) → v.head ≡ Some h → v.draws ≡ Some p → AreInLog log h p

-- what a look tells: the view is the same, and what all drew
abbrev pub Learned : {S : Type 0} → Step S → Holding S → ℕ → Holding S → Type 0
Learned s m found m' = (m' ≡ m) × ((log : List (Entry ℕ)) × Drawn m.0 log)
