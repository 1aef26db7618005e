use Rattle.std.proofs.Common.{arith, length}
use Rattle.td_limits.specs.Imports.{CaseTree}
use Rattle.td_limits.proofs.Folds.{greatest_more}
use Rattle.td_limits.proofs.counts.longest_case.Goals as goal

pub loop-case-preserved : goal.loop-case-preserved
loop-case-preserved c =
    let more = greatest_more (λ (k : CaseTree). length k.fields) c.args.cases.now c.loop-case.case-index c.case-item.result (omega arith) c.case-item.is in omega arith
