use Rattle.std.proofs.Common.{arith}
use Rattle.td_limits.specs.Imports.{FieldTree}
use Rattle.td_limits.specs.Nodes.{action_nodes}
use Rattle.td_limits.proofs.Folds.{greatest_more}
use Rattle.td_limits.proofs.longest_action.fields_action.Goals as goal

pub loop-field-preserved : goal.loop-field-preserved
loop-field-preserved c =
    let more = greatest_more (λ (f : FieldTree). action_nodes f.action) c.args.fields.now c.loop-field.field-index c.field-item.result (omega arith) c.field-item.is in omega arith
