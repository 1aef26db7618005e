use Rattle.std.proofs.Common.{◌≡◌, map, take}
use Rattle.td_limits.specs.Excesses.{greatest}
use Rattle.td_limits.specs.Depths.{param_depth}
use Rattle.td_limits.proofs.depths.params_depth.Given as goal

abbrev pub invariant-loop-param : goal.invariant-loop-param
invariant-loop-param l = l.depth ≡ greatest (map (param_depth l.known) (take l.param-index l.params))
