use Rattle.std.proofs.Common.{length}
use Rattle.td_lower_emit.proofs.levels.+fields_levels.Given as goal

abbrev pub decreases-fields_levels : goal.decreases-fields_levels
decreases-fields_levels l = length l.fields.now
