use Rattle.std.proofs.Common.{◌≡◌, ◌++◌, map}
use Rattle.td_prog.specs.Syntax.{registers}
use Rattle.td_prog_text.specs.Functions.{parameter}
use Rattle.td_prog_text.specs.Statements.{listed}
use Rattle.td_prog_emit.proofs.heads.extend_parameters.Given as goal

abbrev pub invariant-loop-k : goal.invariant-loop-k
invariant-loop-k l = l.out.items ≡ l.fn.out.items ++ listed (map parameter (registers 0 l.k))
