use Rattle.td_ir.specs.WellFormed.{AreEntries}
use Rattle.td_ir.proofs.fitting.are_entries.Given as goal

abbrev pub invariant-loop-k : goal.invariant-loop-k
invariant-loop-k l = AreEntries l.parts l.k
