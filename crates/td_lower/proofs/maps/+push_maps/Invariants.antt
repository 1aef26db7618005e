use Rattle.std.proofs.Common.{length}
use Rattle.td_lower.proofs.maps.+push_maps.Given as goal

abbrev pub decreases-push_maps : goal.decreases-push_maps
decreases-push_maps l = length l.definitions.now
