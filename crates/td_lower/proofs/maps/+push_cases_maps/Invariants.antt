use Rattle.std.proofs.Common.{length}
use Rattle.td_lower.proofs.maps.+push_cases_maps.Given as goal

abbrev pub decreases-push_cases_maps : goal.decreases-push_cases_maps
decreases-push_cases_maps l = length l.cases.now
