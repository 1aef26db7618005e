use Rattle.std.proofs.Common.{◌≡◌, ◌+◌, drop}
use Rattle.td_elab_rules.specs.Actions.{slot_at}
use Rattle.td_elab_actions.proofs.cells.slot_at.Given as goal

-- what is left of the slots, from this cell on, decides; a cell was passed for each slot that was
abbrev pub invariant-loop-slot : goal.invariant-loop-slot
invariant-loop-slot l = (slot_at l.cell (drop l.slot-index l.slots) l.name ≡ slot_at l.first l.slots l.name) × (l.cell ≡ l.first + l.slot-index)
