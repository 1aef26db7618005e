use Rattle.td_swap.specs.Seats.{IsOwn}
use Rattle.td_test_live.proofs.swaps.actors.Given as goal

abbrev pub invariant-loop : goal.invariant-loop
invariant-loop l = IsOwn l.codes l.seat
