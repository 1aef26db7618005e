use Rattle.std.proofs.Common.{◌≡◌, ◌++◌, drop}
use Rattle.td_lower.specs.Sets.{once}
use Rattle.td_lower.proofs.sets.once.Given as goal

-- what was taken and what is still to be taken is all
abbrev pub invariant-loop-at : goal.invariant-loop-at
invariant-loop-at l = l.set ++ once (drop l.at l.sorted) ≡ once l.sorted
