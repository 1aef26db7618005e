use Rattle.std.proofs.Common.{◌≡◌, ◌++◌, drop, map}
use Rattle.td_job_host.specs.Imports.{Buffer}
use Rattle.td_job_host.proofs.copies.rooms_of.Given as goal

-- the rooms so far, and those from here
abbrev pub invariant-loop-buffer : goal.invariant-loop-buffer
invariant-loop-buffer l = map (λ (b : Buffer). b.room) l.buffers ≡ l.rooms ++ map (λ (b : Buffer). b.room) (drop l.buffer-index l.buffers)
