use Rattle.td_elab_fields.proofs.Narrow.{element_narrow}
use Rattle.td_elab_fields.proofs.fields.field.Goals as goal

pub returns-in-Ok-clause-narrow : goal.returns-in-Ok-clause-narrow
returns-in-Ok-clause-narrow c = element_narrow c.args.known.now c.args.bindings.now.scope c.args.tree.now.type_tree c.args.tree.now.extent c.in_ok-shape.shape.0 c.bit_width-width.result c.in_ok-shape.ensures.element c.bit_width-width.ensures.width
