use Rattle.std.proofs.Common.{◌≡◌, ◌++◌}
use Rattle.td_prog_text.specs.Functions.{pointers}
use Rattle.td_prog_text.specs.Statements.{listed}
use Rattle.td_prog_emit.proofs.heads.extend_pointers.Given as goal

abbrev pub invariant-loop-k : goal.invariant-loop-k
invariant-loop-k l = l.out.items ≡ l.fn.out.items ++ listed (pointers l.kind 0 l.k)
