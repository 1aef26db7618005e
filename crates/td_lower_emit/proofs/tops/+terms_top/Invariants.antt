use Rattle.std.proofs.Common.{length}
use Rattle.td_lower_emit.proofs.tops.+terms_top.Given as goal

abbrev pub decreases-terms_top : goal.decreases-terms_top
decreases-terms_top l = length l.args.now
