use Rattle.std.proofs.Common.{length}
use Rattle.td_lower_emit.proofs.levels.+cases_levels.Given as goal

abbrev pub decreases-cases_levels : goal.decreases-cases_levels
decreases-cases_levels l = length l.cases.now
