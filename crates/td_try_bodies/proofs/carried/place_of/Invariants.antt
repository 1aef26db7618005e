use Rattle.std.proofs.Common.{length, ◌-◌}
use Rattle.td_try_bodies.proofs.carried.place_of.Given as goal

abbrev pub decreases-loads : goal.decreases-loads
decreases-loads l = length l.loads - l.next
