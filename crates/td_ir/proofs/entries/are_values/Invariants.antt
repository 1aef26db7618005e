use Rattle.td_ir.specs.Entries.{AreValues}
use Rattle.td_ir.proofs.entries.are_values.Given as goal

abbrev pub invariant-loop-k : goal.invariant-loop-k
invariant-loop-k l = AreValues l.cells l.values l.k
