use Rattle.std.proofs.Common.{length}
use Rattle.td_lower_emit.proofs.tops.+parts_top.Given as goal

abbrev pub decreases-parts_top : goal.decreases-parts_top
decreases-parts_top l = length l.parts.now
