use Rattle.std.proofs.Common.{◌≡◌, drop, map}
use Rattle.td_elab_defs.specs.Heads.{with_all_cells}
use Rattle.td_elab_defs.specs.Slots.{part_cell}
use Rattle.td_elab_defs.proofs.parameters.push_slots.Given as goal

-- what is left of the slots decides
abbrev pub invariant-loop-slot : goal.invariant-loop-slot
invariant-loop-slot l = with_all_cells l.head (map (part_cell l.name) (drop l.slot-index l.slots)) ≡ with_all_cells l.fn.head (map (part_cell l.name) l.slots)
