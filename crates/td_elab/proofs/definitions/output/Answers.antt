use Rattle.td_names.proofs.Naming.{on_ok as on_ok_then}
use Rattle.std.proofs.Common.{List, map, ap, ◌∙◌}
use Rattle.td_ast.specs.declared.definitions.SlotTree.{SlotTree}
use Rattle.td_elab_rules.specs.Records.{slot_of}
use Rattle.td_elab_defs.specs.Slots.{slot_part}
use Rattle.td_elab.proofs.Slots.{grow}
use Rattle.td_elab.proofs.definitions.output.Goals as goal

pub returns-clause-slots : goal.returns-clause-slots
returns-clause-slots c =
    let made = c.in_ok-slot_cells.ensures ∙ ap (λ (xs : List SlotTree). map (λ x. slot_part c.args.names.now (slot_of x)) xs) c.as_slice.ensures in
    on_ok_then c.push.result
    (grow c.args.names.now c.args.known.now c.record.new.known c.args.tree.now c.args.slots.now c.push.new.self c.in_ok-slot_cells.field-0 c.requires c.in_ok-record.ensures.known made)
    c.push.ensures.ok
