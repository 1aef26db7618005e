use Rattle.std.proofs.Common.{◌≡◌, length}
use Rattle.td_grammar.specs.Expressions as productions
use Rattle.td_parser_expr.proofs.unary.applied.Given as goal

abbrev pub invariant-loop-operator : goal.invariant-loop-operator
invariant-loop-operator l = productions.applied l.left.items l.expr ≡ productions.applied l.fn.operators.items l.fn.operand

abbrev pub decreases-loop-operator : goal.decreases-loop-operator
decreases-loop-operator l = length l.left.items
