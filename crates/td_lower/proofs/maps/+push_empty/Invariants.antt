use Rattle.std.proofs.Common.{length}
use Rattle.td_lower.proofs.maps.+push_empty.Given as goal

abbrev pub decreases-push_empty : goal.decreases-push_empty
decreases-push_empty l = length l.parts.now
