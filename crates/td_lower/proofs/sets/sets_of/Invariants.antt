use Rattle.td_lower.proofs.Rising.{AreSetsTo}
use Rattle.td_lower.proofs.sets.sets_of.Given as goal

-- the sets of the enums so far
abbrev pub invariant-loop-values : goal.invariant-loop-values
invariant-loop-values l = AreSetsTo l.listed l.sets l.values-index
