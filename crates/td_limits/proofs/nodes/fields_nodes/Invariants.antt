use Rattle.std.proofs.Common.{◌≡◌, sum, map, take}
use Rattle.td_limits.specs.Excesses.{capped}
use Rattle.std.proofs.Common.{◌+◌}
use Rattle.td_limits.specs.Nodes.{inner_nodes}
use Rattle.td_limits.proofs.nodes.fields_nodes.Given as goal

abbrev pub invariant-loop-field : goal.invariant-loop-field
invariant-loop-field l = l.total ≡ capped (sum (map (λ f. 1 + inner_nodes f) (take l.field-index l.fields)))
