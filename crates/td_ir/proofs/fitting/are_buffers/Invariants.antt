use Rattle.td_ir.specs.WellFormed.{AreBuffers}
use Rattle.td_ir.proofs.fitting.are_buffers.Given as goal

abbrev pub invariant-loop-k : goal.invariant-loop-k
invariant-loop-k l = AreBuffers l.names l.buffers l.k
