use Rattle.std.proofs.Common.{◌≡◌, length}
use Rattle.td_grammar.specs.Operators.{unary_operator}
use Rattle.td_grammar.specs.Grammar.{all_of}
use Rattle.td_grammar.proofs.Loops.{with_all}
use Rattle.td_parser_expr.proofs.unary.unary_operators.Given as goal

abbrev pub invariant-loop-rest : goal.invariant-loop-rest
invariant-loop-rest l = with_all l.operators.items ((all_of unary_operator).reader.read l.rest) ≡ (all_of unary_operator).reader.read l.tokens

abbrev pub decreases-loop-rest : goal.decreases-loop-rest
decreases-loop-rest l = length l.rest
