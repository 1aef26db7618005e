use Rattle.td_ir.specs.Entries.{AreArguments}
use Rattle.td_ir.proofs.entries.are_arguments.Given as goal

abbrev pub invariant-loop-k : goal.invariant-loop-k
invariant-loop-k l = AreArguments l.params l.args l.k
