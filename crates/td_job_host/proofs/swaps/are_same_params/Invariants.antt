use Rattle.std.proofs.Common.{◌≡◌, ◌↔◌, drop, map}
use Rattle.td_job_host.specs.Swaps.{named_param}
use Rattle.td_job_host.proofs.swaps.are_same_params.Given as goal

-- the rest decides, from here on
abbrev pub invariant-loop-index : goal.invariant-loop-index
invariant-loop-index l = (map (named_param l.m) l.ones ≡ map (named_param l.f) l.others) ↔ (map (named_param l.m) (drop l.index l.ones) ≡ map (named_param l.f) (drop l.index l.others))
