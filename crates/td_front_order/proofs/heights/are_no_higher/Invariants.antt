use Rattle.std.proofs.Common.{◌≡◌, drop, nat_le}
use Rattle.std.specs.List.{list_all}
use Rattle.td_front_order.specs.Heights.{height}
use Rattle.td_front_order.proofs.heights.are_no_higher.Given as goal

abbrev pub invariant-loop-number : goal.invariant-loop-number
invariant-loop-number l = list_all (λ j. nat_le (height l.heights j) l.most) (drop l.number-index l.used) ≡ list_all (λ j. nat_le (height l.heights j) l.most) l.used
