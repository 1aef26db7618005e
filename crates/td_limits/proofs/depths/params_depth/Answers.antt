use Rattle.std.proofs.Common.{arith}
use Rattle.td_limits.specs.Depths.{param_depth}
use Rattle.td_limits.proofs.Folds.{greatest_more}
use Rattle.td_limits.proofs.depths.params_depth.Goals as goal

pub loop-param-preserved : goal.loop-param-preserved
loop-param-preserved c =
    let more = greatest_more (param_depth c.args.known.now) c.args.params.now c.loop-param.param-index c.param-item.result (omega arith) c.param-item.is in omega arith
