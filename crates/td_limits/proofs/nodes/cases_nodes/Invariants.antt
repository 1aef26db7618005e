use Rattle.std.proofs.Common.{◌≡◌, sum, map, take}
use Rattle.td_limits.specs.Excesses.{capped}
use Rattle.std.proofs.Common.{◌+◌}
use Rattle.td_limits.specs.Nodes.{fields_nodes}
use Rattle.td_limits.proofs.nodes.cases_nodes.Given as goal

abbrev pub invariant-loop-case : goal.invariant-loop-case
invariant-loop-case l = l.total ≡ capped (sum (map (λ c. 1 + fields_nodes c.fields) (take l.case-index l.cases)))
