use Rattle.std.proofs.Common.{◌≤◌, ◌-◌, length}
use Rattle.td_front_order.proofs.Higher.{AreHeightsBelow}
use Rattle.td_front_order.proofs.heights.are_heights.Given as goal

abbrev pub invariant-loop-number : goal.invariant-loop-number
invariant-loop-number l = record { within : l.number ≤ length l.graph; below : AreHeightsBelow l.number l.graph l.heights }

abbrev pub decreases-loop-number : goal.decreases-loop-number
decreases-loop-number l = length l.graph - l.number
