use Rattle.td_verify.specs.Findings.{AreTops}
use Rattle.td_verify.proofs.operands.tops.Given as goal

abbrev pub invariant-loop-k : goal.invariant-loop-k
invariant-loop-k l = AreTops l.parts l.tops.items l.k
