use Rattle.std.proofs.Common.{arith}
use Rattle.td_limits.specs.Depths.{tree_depth}
use Rattle.td_limits.proofs.Folds.{greatest_more}
use Rattle.td_limits.proofs.depths.trees_depth.Goals as goal

pub loop-e-preserved : goal.loop-e-preserved
loop-e-preserved c =
    let more = greatest_more (tree_depth c.args.known.now) c.args.es.now c.loop-e.e-index c.e-item.result (omega arith) c.e-item.is in omega arith
