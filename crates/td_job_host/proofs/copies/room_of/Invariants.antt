use Rattle.std.proofs.Common.{◌≡◌, ◌≤◌, ◌+◌, ◌-◌, ◌^◌, map, drop}
use Rattle.std.specs.Prelude.{min}
use Rattle.td_job_host.specs.Imports.{Buffer}
use Rattle.td_posts.specs.Servable.{room_in}
use Rattle.td_job_host.proofs.copies.room_of.Given as goal

-- what was counted so far, and the buffers from here
abbrev pub invariant-loop-buffer : goal.invariant-loop-buffer
invariant-loop-buffer l = record {
  same : min (l.sum + room_in (map (λ (b : Buffer). b.room) (drop l.buffer-index l.buffers))) (2 ^ 64 - 1) ≡ min (room_in (map (λ (b : Buffer). b.room) l.buffers)) (2 ^ 64 - 1);
  most : l.sum ≤ 2 ^ 64 - 1;
}
