use Rattle.std.proofs.Common.{length}
use Rattle.td_lower.proofs.tables.+push_buffer_names.Given as goal

abbrev pub decreases-push_buffer_names : goal.decreases-push_buffer_names
decreases-push_buffer_names l = length l.buffers.now
