-- Each operand has fewer nodes than the expression.
use Rattle.std.specs.Prelude.{◌≤◌, max}
use Rattle.std.proofs.Common.{arith}
use Rattle.td_ast.specs.declared.token.Span.{Span}
use Rattle.td_ast.specs.declared.expressions.ExprKind.{ExprKind}
use Rattle.td_ast.specs.declared.expressions.ExprKind.TheVariants as kinds
use Rattle.td_ast.specs.declared.expressions.Expr.TheDeep.{deep-ExprKind}
use Rattle.td_ast.specs.Trees.{tree_size}
use Rattle.td_ast.specs.ExprView.{tree_at}

pub children_smaller : (s : Span) (k : ExprKind) → max (deep-ExprKind k) 0 ≤ tree_size (tree_at s k)
children_smaller s (kinds.Number n b) = omega arith
children_smaller s (kinds.Truth b) = omega arith
children_smaller s (kinds.Name n) = omega arith
children_smaller s (kinds.FieldPos p) = omega arith
children_smaller s (kinds.Sizeof w o p) = omega arith
children_smaller s (kinds.RangeOkay a b c) = omega arith
children_smaller s (kinds.Unary o p a) = omega arith
children_smaller s (kinds.Binary o p a b) = omega arith
children_smaller s (kinds.Choice p a b c) = omega arith
