use Rattle.std.proofs.Common.{◌≡◌, map, take}
use Rattle.td_elab_rules.specs.Records.{slot_of}
use Rattle.td_elab_defs.specs.Slots.{slot_part}
use Rattle.td_elab_defs.proofs.slots.slot_cells.Given as goal

abbrev pub invariant-loop-tree : goal.invariant-loop-tree
invariant-loop-tree l = l.cells ≡ map (λ x. slot_part l.names (slot_of x)) (take l.tree-index l.trees)
