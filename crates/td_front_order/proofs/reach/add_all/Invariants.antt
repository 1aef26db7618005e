use Rattle.std.proofs.Common.{◌≡◌, drop, length}
use Rattle.td_front_order.specs.Flags.{AreFlags, AreBelow, add_new}
use Rattle.td_front_order.proofs.reach.add_all.Given as goal

abbrev pub invariant-loop-number : goal.invariant-loop-number
invariant-loop-number l = record {
  flags : AreFlags l.flags l.reached;
  size : length l.flags ≡ length l.fn.flags;
  below : AreBelow (length l.flags) (drop l.number-index l.used);
  rest : add_new l.reached (drop l.number-index l.used) ≡ add_new l.fn.reached l.used;
}
