-- What each seat knows, and how that changes.
use Rattle.std.specs.Prelude.{ℕ, ◌+◌, Bool, List, [], ◌∷◌, ◌++◌}
use Rattle.td_words.specs.declared.view.Access.{Access}
use Rattle.td_words.specs.declared.view.SeatView.{SeatView}
use Rattle.td_words.specs.declared.view.HostView.{HostView}

abbrev pub seat_view : List ℕ → ℕ → Bool → List Access → SeatView
seat_view ws n g xs = record { opened = ws; number = n; guest = g; steps = xs }

abbrev pub host_view : List ℕ → ℕ → List SeatView → HostView
host_view ws m es = record { opened = ws; made = m; ended = es }

-- the view of a seat after one more step
abbrev pub did : SeatView → Access → SeatView
did v a = seat_view v.opened v.number v.guest (v.steps ++ a ∷ [])

-- the host made one more seat
abbrev pub one_more : HostView → HostView
one_more h = host_view h.opened (h.made + 1) h.ended

-- the seat that the host makes next, of a guest or of a reader: its number is how many were made before
abbrev pub new_seat : HostView → Bool → SeatView
new_seat h g = seat_view h.opened h.made g []

-- the host gathered a seat
abbrev pub with_ended : HostView → SeatView → HostView
with_ended h v = host_view h.opened h.made (h.ended ++ v ∷ [])
