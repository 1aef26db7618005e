use Rattle.std.proofs.Common.{◌≡◌, ◌-◌}
use Rattle.td_swap.specs.Views.{publisher_view}
use Rattle.td_swap.specs.Seats.{publish_state}
use Rattle.td_host_actors.proofs.publisher.publish_all.Given as goal

abbrev pub invariant-loop-number : goal.invariant-loop-number
invariant-loop-number l = l.seat ≡ publish_state l.initial.seat.table (publisher_view l.initial.seat.view.count (l._number - 1))
