use Rattle.td_ir.specs.WellFormed.{AreRoutines}
use Rattle.td_ir.proofs.fitting.are_routines.Given as goal

abbrev pub invariant-loop-k : goal.invariant-loop-k
invariant-loop-k l = AreRoutines l.parts l.k
