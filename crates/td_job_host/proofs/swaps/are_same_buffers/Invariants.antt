use Rattle.std.proofs.Common.{◌≡◌, ◌↔◌, drop, map}
use Rattle.td_job_host.specs.Swaps.{named_buffer}
use Rattle.td_job_host.proofs.swaps.are_same_buffers.Given as goal

-- the rest decides, from here on
abbrev pub invariant-loop-index : goal.invariant-loop-index
invariant-loop-index l = (map (named_buffer l.m) l.ones ≡ map (named_buffer l.f) l.others) ↔ (map (named_buffer l.m) (drop l.index l.ones) ≡ map (named_buffer l.f) (drop l.index l.others))
