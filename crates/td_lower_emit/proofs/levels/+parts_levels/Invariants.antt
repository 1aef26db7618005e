use Rattle.std.proofs.Common.{length}
use Rattle.td_lower_emit.proofs.levels.+parts_levels.Given as goal

abbrev pub decreases-parts_levels : goal.decreases-parts_levels
decreases-parts_levels l = length l.parts.now
