use Rattle.std.proofs.Common.{◌≡◌, map, take}
use Rattle.td_limits.specs.Excesses.{greatest}
use Rattle.td_limits.specs.Depths.{item_depth}
use Rattle.td_limits.proofs.depths.items_depth.Given as goal

abbrev pub invariant-loop-item : goal.invariant-loop-item
invariant-loop-item l = l.depth ≡ greatest (map (item_depth l.known) (take l.item-index l.items))
