use Rattle.std.proofs.Common.{length}
use Rattle.td_lower.proofs.tables.+push_sites.Given as goal

abbrev pub decreases-push_sites : goal.decreases-push_sites
decreases-push_sites l = length l.definitions.now
