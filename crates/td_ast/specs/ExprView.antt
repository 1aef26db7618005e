-- An expression as a tree.
use Rattle.td_ast.specs.declared.token.Span.{Span}
use Rattle.td_ast.specs.declared.expressions.ExprKind.{ExprKind}
use Rattle.td_ast.specs.declared.expressions.ExprKind.TheVariants as kinds
use Rattle.td_ast.specs.Trees.{Tree, Number, Truth, Name, FieldPos, Sizeof, RangeOkay, Unary, Binary, Choice}

abbrev pub tree_at : Span → ExprKind → Tree
tree_at s (kinds.Number n b) = Number s n b
tree_at s (kinds.Truth b) = Truth s b
tree_at s (kinds.Name n) = Name s n
tree_at s (kinds.FieldPos p) = FieldPos s p
tree_at s (kinds.Sizeof w o p) = Sizeof s w o p
tree_at s (kinds.RangeOkay a b c) = RangeOkay s a.value b.value c.value
tree_at s (kinds.Unary o p a) = Unary s o p a.value
tree_at s (kinds.Binary o p a b) = Binary s o p a.value b.value
tree_at s (kinds.Choice p a b c) = Choice s p a.value b.value c.value
