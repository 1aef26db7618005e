use Rattle.std.proofs.Common.{length}
use Rattle.td_lower_emit.proofs.counts.+count_cases.Given as goal

abbrev pub decreases-count_cases : goal.decreases-count_cases
decreases-count_cases l = length l.cases.now
