use Rattle.td_ir.specs.WellFormed.{AreSets}
use Rattle.td_ir.proofs.fitting.are_sets.Given as goal

abbrev pub invariant-loop-k : goal.invariant-loop-k
invariant-loop-k l = AreSets l.parts l.k
