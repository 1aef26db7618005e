use Rattle.std.proofs.Common.{length}
use Rattle.td_lower_emit.proofs.tops.+cases_top.Given as goal

abbrev pub decreases-cases_top : goal.decreases-cases_top
decreases-cases_top l = length l.cases.now
