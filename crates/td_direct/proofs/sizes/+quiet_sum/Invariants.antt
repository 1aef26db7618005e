use Rattle.std.proofs.Common.{length}
use Rattle.td_direct.proofs.sizes.+quiet_sum.Given as goal

abbrev pub decreases-quiet_sum : goal.decreases-quiet_sum
decreases-quiet_sum l = length l.fields.now
