use Rattle.std.proofs.Common.{◌≡◌, ◌↔◌, drop, map}
use Rattle.td_job_host.specs.Swaps.{named_cell}
use Rattle.td_job_host.proofs.swaps.are_same_cells.Given as goal

-- the rest decides, from here on
abbrev pub invariant-loop-index : goal.invariant-loop-index
invariant-loop-index l = (map (named_cell l.m) l.ones ≡ map (named_cell l.f) l.others) ↔ (map (named_cell l.m) (drop l.index l.ones) ≡ map (named_cell l.f) (drop l.index l.others))
