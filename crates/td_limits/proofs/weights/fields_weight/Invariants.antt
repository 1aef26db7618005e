use Rattle.std.proofs.Common.{◌≡◌, sum, map, take}
use Rattle.td_limits.specs.Excesses.{capped}
use Rattle.td_limits.specs.Weights.{field_weight}
use Rattle.td_limits.proofs.weights.fields_weight.Given as goal

abbrev pub invariant-loop-field : goal.invariant-loop-field
invariant-loop-field l = l.total ≡ capped (sum (map (field_weight l.known) (take l.field-index l.fields)))
