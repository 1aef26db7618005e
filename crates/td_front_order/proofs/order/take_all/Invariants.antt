use Rattle.std.proofs.Common.{◌≡◌, ℕ, ◌≤◌, ◌-◌, length, []}
use Rattle.td_num.specs.Lists.{is_among}
use Rattle.td_front_order.specs.Order.{order, taken_after}
use Rattle.td_front_order.specs.Flags.{flag_at}
use Rattle.td_front_order.specs.Waiting.{AreReady, AreListed}
use Rattle.td_front_order.proofs.order.take_all.Given as goal

abbrev pub invariant-loop-turn : goal.invariant-loop-turn
invariant-loop-turn l = record {
  within : l.turn ≤ length l.graph;
  size : length l.flags ≡ length l.graph;
  lists : length l.waiting ≡ length l.graph;
  flags : (j : ℕ) → flag_at l.flags j ≡ is_among l.taken j;
  sound : AreReady l.graph (flag_at l.flags) l.ready.keys;
  listed : AreListed l.graph (flag_at l.flags) l.waiting l.ready.keys [];
  rest : taken_after (length l.graph - l.turn) l.graph l.taken ≡ order l.graph;
}

abbrev pub decreases-loop-turn : goal.decreases-loop-turn
decreases-loop-turn l = length l.graph - l.turn
