use Rattle.td_ir.specs.WellFormed.{AreCells}
use Rattle.td_ir.proofs.fitting.are_cells.Given as goal

abbrev pub invariant-loop-k : goal.invariant-loop-k
invariant-loop-k l = AreCells l.names l.cells l.k
