use Rattle.std.proofs.Common.{◌≡◌, ◌≤◌, ◌-◌, length}
use Rattle.td_front_order.specs.Flags.{AreFlags}
use Rattle.td_front_order.proofs.Reached.{IsUpTo}
use Rattle.td_front_order.proofs.reach.reached_from.Given as goal

abbrev pub invariant-loop-cursor : goal.invariant-loop-cursor
invariant-loop-cursor l = record {
  flags : AreFlags l.flags l.reached;
  size : length l.flags ≡ length l.graph;
  within : l.cursor ≤ length l.reached;
  up_to : IsUpTo l.graph l.from l.cursor l.reached;
}

abbrev pub decreases-loop-cursor : goal.decreases-loop-cursor
decreases-loop-cursor l = length l.graph - l.cursor
