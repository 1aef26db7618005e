use Rattle.std.proofs.Common.{◌≡◌, map, take, length}
use Rattle.td_limits.specs.Excesses.{greatest}
use Rattle.td_limits.proofs.counts.longest_case.Given as goal

abbrev pub invariant-loop-case : goal.invariant-loop-case
invariant-loop-case l = l.longest ≡ greatest (map (λ c. length c.fields) (take l.case-index l.cases))
