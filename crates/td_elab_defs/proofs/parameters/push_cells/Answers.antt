use Rattle.std.proofs.Common.{List, ℕ, map, sym, ap, ap₂, ◌∙◌}
use Rattle.td_core.specs.declared.module.Cell.{Cell}
use Rattle.td_elab_rules.specs.Parameters.{cells_of}
use Rattle.td_elab_defs.specs.declared.slots.SlotCell.{SlotCell}
use Rattle.td_elab_defs.specs.Heads.{with_all_cells}
use Rattle.td_elab_defs.specs.Slots.{part_cell}
use Rattle.td_names.proofs.Naming.{on_ok}
use Rattle.td_elab_defs.proofs.Cells.{record_cells}
use Rattle.td_elab_defs.proofs.parameters.push_cells.Goals as goal

pub returns-in-Record : goal.returns-in-Record
returns-in-Record c =
    let names = c.args.names.now in
    let k = c.args.known.now in
    let p = c.args.name.now in
    on_ok c.push_slots.result
    (λ h. h ∙ ap (λ (cells : List Cell). with_all_cells c.args.head.now cells)
    (ap₂ (λ (n : ℕ) (xs : List SlotCell). map (part_cell (record { number = n })) xs) c.number.ensures c.slot_cells_at.ensures
    ∙ record_cells names k c.args.slots.now p c.in-Record.record c.requires
    ∙ ap (λ cells. cells_of names k p cells) (sym c.in-Record.is)))
    c.push_slots.ensures
