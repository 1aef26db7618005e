use Rattle.std.proofs.Common.{◌≡◌, ◌++◌, drop, map}
use Rattle.td_front_flat.specs.Definitions.{flat_item}
use Rattle.td_front_flat.proofs.definitions.flat_items.Given as goal

abbrev pub invariant-loop-item : goal.invariant-loop-item
invariant-loop-item l = l.flat ++ map (flat_item l.own) (drop l.item-index l.items) ≡ map (flat_item l.own) l.items
