use Rattle.std.proofs.Common.{◌≡◌, length, drop}
use Rattle.td_front_order.specs.Flags.{flag_at}
use Rattle.td_front_order.specs.Waiting.{AreReady, AreListed}
use Rattle.td_front_order.proofs.enlisting.enlist_those.Given as goal

abbrev pub invariant-loop-number : goal.invariant-loop-number
invariant-loop-number l = record {
  lists : length l.waiting ≡ length l.graph;
  sound : AreReady l.graph (flag_at l.flags) l.ready.keys;
  listed : AreListed l.graph (flag_at l.flags) l.waiting l.ready.keys (drop l.number-index l.numbers);
}
