use Rattle.std.proofs.Common.{◌-◌, ◌≤◌}
use Rattle.td_stream.specs.Parts.{start_of}
use Rattle.td_try_bodies.proofs.carried.put_loads.Given as goal

-- the stretch has begun
abbrev pub invariant-words : goal.invariant-words
invariant-words l = start_of l.layout l.at ≤ l.pos

abbrev pub decreases-words : goal.decreases-words
decreases-words l = l.length - l.pos
