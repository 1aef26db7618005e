use Rattle.std.proofs.Common.{◌≡◌, map, take}
use Rattle.td_limits.specs.Counts.{fields_action}
use Rattle.td_limits.specs.Excesses.{capped, greatest}
use Rattle.td_limits.proofs.longest_action.cases_action.Given as goal

abbrev pub invariant-loop-case : goal.invariant-loop-case
invariant-loop-case l = l.longest ≡ capped (greatest (map (λ c. fields_action c.fields) (take l.case-index l.cases)))
