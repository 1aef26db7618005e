use Rattle.std.proofs.Common.{arith}
use Rattle.td_limits.specs.Depths.{case_depth}
use Rattle.td_limits.proofs.Folds.{greatest_more}
use Rattle.td_limits.proofs.depths.cases_depth.Goals as goal

pub loop-case-preserved : goal.loop-case-preserved
loop-case-preserved c =
    let more = greatest_more (case_depth c.args.known.now) c.args.cases.now c.loop-case.case-index c.case-item.result (omega arith) c.case-item.is in omega arith
