use Rattle.std.proofs.Common.{◌≡◌, ◌++◌, drop, flat_map}
use Rattle.td_front_flat.specs.Uses.{item_uses}
use Rattle.td_front_flat.proofs.uses.add_items.Given as goal

abbrev pub invariant-loop-item : goal.invariant-loop-item
invariant-loop-item l = l.uses ++ flat_map item_uses (drop l.item-index l.items) ≡ l.fn.uses ++ flat_map item_uses l.items
