use Rattle.std.proofs.Common.{length}
use Rattle.td_lower_emit.proofs.tops.+fields_top.Given as goal

abbrev pub decreases-fields_top : goal.decreases-fields_top
decreases-fields_top l = length l.fields.now
