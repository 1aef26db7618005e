use Rattle.std.proofs.Common.{◌≡◌, sum, map, take}
use Rattle.td_limits.specs.Excesses.{capped}
use Rattle.td_limits.specs.Weights.{param_cells}
use Rattle.td_limits.proofs.weights.head_cells.Given as goal

abbrev pub invariant-loop-param : goal.invariant-loop-param
invariant-loop-param l = l.total ≡ capped (sum (map (param_cells l.known) (take l.param-index l.params)))
