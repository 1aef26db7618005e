-- The cells for the slots of records, but for the name of the parameter.
use Rattle.std.specs.Prelude.{ℕ, List, [], map, Some, None, slice_get}
use Rattle.td_core.specs.declared.module.NameId.{NameId}
use Rattle.td_core.specs.declared.module.Cell.{Cell}
use Rattle.td_names.specs.Names.{number_of}
use Rattle.td_elab_rules.specs.declared.known.Slot.{Slot}
use Rattle.td_elab_rules.specs.declared.known.Known.{Known}
use Rattle.td_elab_rules.specs.Parameters.{slot_kind}
use Rattle.td_elab_defs.specs.declared.slots.SlotCell.{SlotCell}

abbrev pub slot_part : List (List ℕ) → Slot → SlotCell
slot_part names x = record { field = record { number = number_of names x.name }; kind = slot_kind x.number }

-- those of each record that is known
abbrev pub record_parts : List (List ℕ) → Known → List (List SlotCell)
record_parts names k = map (λ xs. map (slot_part names) xs) k.records

abbrev pub parts_at : List (List SlotCell) → ℕ → List SlotCell
parts_at all r = elim (slice_get all r) [ None ↦ [] | Some xs ↦ xs ]

-- the cell of a parameter of that name
abbrev pub part_cell : NameId → SlotCell → Cell
part_cell own x = record { name = own; field = Some x.field; kind = x.kind }
