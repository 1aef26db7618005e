use Rattle.std.proofs.Common.{length}
use Rattle.td_meaning_needed.proofs.flags.+need_fields.Given as goal

abbrev pub decreases-need_fields : goal.decreases-need_fields
decreases-need_fields l = length l.fields.now
