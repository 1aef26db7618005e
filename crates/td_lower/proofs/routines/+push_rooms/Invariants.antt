use Rattle.std.proofs.Common.{length}
use Rattle.td_lower.proofs.routines.+push_rooms.Given as goal

abbrev pub decreases-push_rooms : goal.decreases-push_rooms
decreases-push_rooms l = length l.buffers.now
