use Rattle.std.proofs.Common.{length}
use Rattle.td_lower_emit.proofs.definitions.+write_cases.Given as goal

abbrev pub decreases-write_cases : goal.decreases-write_cases
decreases-write_cases l = length l.all.now
