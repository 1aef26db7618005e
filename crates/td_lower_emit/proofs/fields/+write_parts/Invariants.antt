use Rattle.std.proofs.Common.{length}
use Rattle.td_lower_emit.proofs.fields.+write_parts.Given as goal

abbrev pub decreases-write_parts : goal.decreases-write_parts
decreases-write_parts l = length l.parts.now
