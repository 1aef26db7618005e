use Rattle.td_ir.specs.WellFormed.{AreSites}
use Rattle.td_ir.proofs.fitting.are_sites.Given as goal

abbrev pub invariant-loop-k : goal.invariant-loop-k
invariant-loop-k l = AreSites l.parts l.k
