use Rattle.std.proofs.Common.{length}
use Rattle.td_lower_emit.proofs.counts.+count_parts.Given as goal

abbrev pub decreases-count_parts : goal.decreases-count_parts
decreases-count_parts l = length l.fields.now
