use Rattle.std.proofs.Common.{arith}
use Rattle.td_limits.specs.Depths.{field_depth}
use Rattle.td_limits.proofs.Folds.{greatest_more}
use Rattle.td_limits.proofs.depths.fields_depth.Goals as goal

pub loop-field-preserved : goal.loop-field-preserved
loop-field-preserved c =
    let more = greatest_more (field_depth c.args.known.now) c.args.fields.now c.loop-field.field-index c.field-item.result (omega arith) c.field-item.is in omega arith
