use Rattle.std.proofs.Common.{◌≡◌, sum, map, take}
use Rattle.td_limits.specs.Excesses.{capped}
use Rattle.td_limits.specs.Weights.{case_weight}
use Rattle.td_limits.proofs.weights.cases_weight.Given as goal

abbrev pub invariant-loop-case : goal.invariant-loop-case
invariant-loop-case l = l.total ≡ capped (sum (map (case_weight l.known) (take l.case-index l.cases)))
