use Rattle.td_ir.specs.WellFormed.{AreParams}
use Rattle.td_ir.proofs.fitting.are_params.Given as goal

abbrev pub invariant-loop-k : goal.invariant-loop-k
invariant-loop-k l = AreParams l.names l.params l.k
