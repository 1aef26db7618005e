use Rattle.std.proofs.Common.{◌≡◌, map, take}
use Rattle.td_limits.specs.Excesses.{capped, greatest}
use Rattle.td_limits.specs.Nodes.{action_nodes}
use Rattle.td_limits.proofs.longest_action.fields_action.Given as goal

abbrev pub invariant-loop-field : goal.invariant-loop-field
invariant-loop-field l = l.longest ≡ capped (greatest (map (λ f. action_nodes f.action) (take l.field-index l.fields)))
