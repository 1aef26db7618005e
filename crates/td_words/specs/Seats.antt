-- What contracts see of the table and of its seats.
use Rattle.std.specs.Prelude.{ℕ}
use Rattle.atomic_table.specs.Seated.{TableId}
use Rattle.td_words.specs.declared.view.Access.{Access}
use Rattle.td_words.specs.declared.view.SeatView.{SeatView}
use Rattle.td_words.specs.declared.view.HostView.{HostView}
use Rattle.td_words.specs.Views.{did}

-- a seat of a guest or a reader: whose table it is at, and its view
pub record SeatState : Type 0 where
  pub table : TableId
  pub view : SeatView

-- the host's seat
pub record HostState : Type 0 where
  pub table : TableId
  pub view : HostView

-- the table, and how many words it has for others
pub record BufferState : Type 0 where
  pub table : TableId
  pub count : ℕ

abbrev pub seat_state : TableId → SeatView → SeatState
seat_state t v = record { table = t; view = v }

-- the seat after one more step
abbrev pub then_did : SeatState → Access → SeatState
then_did s a = record { table = s.table; view = did s.view a }

-- the host's seat with another view
abbrev pub with_view : HostState → HostView → HostState
with_view k h = record { table = k.table; view = h }
