-- Expressions as contracts see them (own rule): trees, with a span at each node and at each operator. `ExprKind` in
-- src/expressions.rt says what each variant is.
use Rattle.std.specs.Prelude.{ℕ, ◌+◌, Bool}
use Rattle.td_ast.specs.declared.token.Span.{Span}
use Rattle.td_ast.specs.declared.token.Base.{Base}
use Rattle.td_ast.specs.declared.names.Name as names
use Rattle.td_ast.specs.declared.expressions.UnaryOperator.{UnaryOperator}
use Rattle.td_ast.specs.declared.expressions.BinaryOperator.{BinaryOperator}
use Rattle.td_ast.specs.declared.expressions.SizeofOperand.{SizeofOperand}

-- The first span of each is the node's own.
pub data Tree : Type 0 where
  Number : Span → ℕ → Base → Tree
  Truth : Span → Bool → Tree
  Name : Span → names.Name → Tree
  FieldPos : Span → Span → Tree
  Sizeof : Span → Span → SizeofOperand → Span → Tree
  RangeOkay : Span → Tree → Tree → Tree → Tree
  Unary : Span → UnaryOperator → Span → Tree → Tree
  Binary : Span → BinaryOperator → Span → Tree → Tree → Tree
  Choice : Span → Span → Tree → Tree → Tree → Tree

-- How many nodes it has.
abbrev pub tree_size : Tree → ℕ
tree_size (Number s n b) = 1
tree_size (Truth s b) = 1
tree_size (Name s n) = 1
tree_size (FieldPos s p) = 1
tree_size (Sizeof s w o p) = 1
tree_size (RangeOkay s a b c) = tree_size a + tree_size b + tree_size c + 1
tree_size (Unary s o p a) = tree_size a + 1
tree_size (Binary s o p a b) = tree_size a + tree_size b + 1
tree_size (Choice s p a b c) = tree_size a + tree_size b + tree_size c + 1

-- The span of the whole.
abbrev pub span_of : Tree → Span
span_of (Number s n b) = s
span_of (Truth s b) = s
span_of (Name s n) = s
span_of (FieldPos s p) = s
span_of (Sizeof s w o p) = s
span_of (RangeOkay s a b c) = s
span_of (Unary s o p a) = s
span_of (Binary s o p a b) = s
span_of (Choice s p a b c) = s

-- The same with another span
abbrev pub spanned : Span → Tree → Tree
spanned q (Number s n b) = Number q n b
spanned q (Truth s b) = Truth q b
spanned q (Name s n) = Name q n
spanned q (FieldPos s p) = FieldPos q p
spanned q (Sizeof s w o p) = Sizeof q w o p
spanned q (RangeOkay s a b c) = RangeOkay q a b c
spanned q (Unary s o p a) = Unary q o p a
spanned q (Binary s o p a b) = Binary q o p a b
spanned q (Choice s p a b c) = Choice q p a b c

-- From the beginning of the one to the end of the other
abbrev pub over : Span → Span → Span
over a b = record { from = a.from; to = b.to }
