use Rattle.std.proofs.Common.{◌≡◌, ◌++◌, flat_map}
use Rattle.td_prog.specs.Syntax.{registers}
use Rattle.td_prog_text.specs.Functions.{declaration}
use Rattle.td_prog_emit.proofs.heads.extend_declarations.Given as goal

abbrev pub invariant-loop-k : goal.invariant-loop-k
invariant-loop-k l = l.out.items ≡ l.fn.out.items ++ flat_map declaration (registers l.first l.k)
