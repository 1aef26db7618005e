use Rattle.std.proofs.Common.{◌≡◌, ◌≤◌, ◌-◌, length}
use Rattle.td_front_order.specs.Flags.{flag_at}
use Rattle.td_front_order.specs.Waiting.{AreReady}
use Rattle.td_front_order.proofs.Listed.{AreListedBelow}
use Rattle.td_front_order.proofs.enlisting.enlist_all.Given as goal

abbrev pub invariant-loop-number : goal.invariant-loop-number
invariant-loop-number l = record {
  within : l.number ≤ length l.graph;
  lists : length l.waiting ≡ length l.graph;
  sound : AreReady l.graph (flag_at l.flags) l.ready.keys;
  below : AreListedBelow l.graph (flag_at l.flags) l.number l.waiting l.ready.keys;
}

abbrev pub decreases-loop-number : goal.decreases-loop-number
decreases-loop-number l = length l.graph - l.number
