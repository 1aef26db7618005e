use Rattle.std.proofs.Common.{length}
use Rattle.td_meaning_needed.proofs.flags.+need_parts.Given as goal

abbrev pub decreases-need_parts : goal.decreases-need_parts
decreases-need_parts l = length l.parts.now
