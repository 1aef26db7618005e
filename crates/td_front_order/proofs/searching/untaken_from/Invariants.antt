use Rattle.std.proofs.Common.{◌≡◌, ◌-◌, drop, length}
use Rattle.std.specs.List.{list_all}
use Rattle.td_front_order.specs.Flags.{flag_at}
use Rattle.td_front_order.proofs.searching.untaken_from.Given as goal

abbrev pub invariant-loop-at : goal.invariant-loop-at
invariant-loop-at l = list_all (flag_at l.flags) (drop l.at l.used) ≡ list_all (flag_at l.flags) (drop l.from l.used)

abbrev pub decreases-loop-at : goal.decreases-loop-at
decreases-loop-at l = length l.used - l.at
