use Rattle.std.proofs.Common.{◌≡◌, drop}
use Rattle.td_front_flat.specs.Definitions.{with_items}
use Rattle.td_front_flat.proofs.parts.see_items.Given as goal

abbrev pub invariant-loop-item : goal.invariant-loop-item
invariant-loop-item l = with_items l.names (drop l.item-index l.items) ≡ with_items l.fn.names l.items
