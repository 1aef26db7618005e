use Rattle.std.proofs.Common.{ap, arith}
use Rattle.td_limits.specs.Imports.{CaseTree}
use Rattle.td_limits.specs.Counts.{fields_action}
use Rattle.td_limits.proofs.Folds.{greatest_more}
use Rattle.td_limits.proofs.longest_action.cases_action.Goals as goal

pub loop-case-preserved : goal.loop-case-preserved
loop-case-preserved c =
    let more = greatest_more (λ (k : CaseTree). fields_action k.fields) c.args.cases.now c.loop-case.case-index c.case-item.result (omega arith) c.case-item.is in
    let same = ap fields_action c.as_slice.ensures in omega (arith, more, same)
