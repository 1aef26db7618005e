use Rattle.std.proofs.Common.{◌≡◌, ◌++◌}
use Rattle.td_prog_text.specs.Statements.{registers_text}
use Rattle.td_prog_emit.proofs.calls.extend_registers.Given as goal

abbrev pub invariant-loop-k : goal.invariant-loop-k
invariant-loop-k l = l.out.items ≡ l.fn.out.items ++ registers_text l.first l.k
