use Rattle.std.proofs.Common.{length}
use Rattle.td_lower.proofs.maps.+push_fields_maps.Given as goal

abbrev pub decreases-push_fields_maps : goal.decreases-push_fields_maps
decreases-push_fields_maps l = length l.fields.now
