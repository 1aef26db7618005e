use Rattle.std.proofs.Common.{◌≡◌, drop}
use Rattle.td_limits.specs.Sizes.{with_members}
use Rattle.td_limits.proofs.sizes.declare_members.Given as goal

-- what is left of the items is declared after these
abbrev pub invariant-loop-item : goal.invariant-loop-item
invariant-loop-item l = with_members l.known (drop l.item-index l.items) ≡ with_members l.fn.known l.items
