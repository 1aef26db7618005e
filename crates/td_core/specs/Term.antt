-- Expressions and actions as contracts see them (own rule).
use Rattle.std.specs.Prelude.{ℕ, ◌+◌}
use Rattle.td_ast.specs.declared.token.Span.{Span}
use Rattle.td_core.specs.declared.expressions.Relation.{Relation}
use Rattle.td_core.specs.declared.expressions.Scalar.{Scalar}
use Rattle.td_core.specs.declared.expressions.Binary.{Binary}

-- an expression: a literal with its type, or the place of a value in scope with its type and the greatest value that
-- it can have, or an operator with its operands
pub data Term : Type 0 where
  number : ℕ → Scalar → Term
  name : ℕ → Scalar → ℕ → Term
  complement : Term → Term
  negation : Term → Term
  compute : Binary → Span → Term → Term → Term
  compare : Relation → Term → Term → Term
  both : Term → Term → Term
  either : Term → Term → Term
  choice : Term → Term → Term → Term
  range_okay : Term → Term → Term → Term

-- an action: nothing, or a statement, and what follows it
pub data Deed : Type 0 where
  done : Deed
  set : ℕ → Term → Deed → Deed
  keep : ℕ → Deed → Deed
  fork : Term → Deed → Deed → Deed → Deed
  answer : Term → Deed
  give_up : Deed

-- more than that of each part
abbrev pub measure : Term → ℕ
measure (number n w) = 1
measure (name i w most) = 1
measure (complement a) = 1 + measure a
measure (negation a) = 1 + measure a
measure (compute op s a b) = 1 + (measure a + measure b)
measure (compare r a b) = 1 + (measure a + measure b)
measure (both a b) = 1 + (measure a + measure b)
measure (either a b) = 1 + (measure a + measure b)
measure (choice c a b) = 1 + (measure c + (measure a + measure b))
measure (range_okay s o a) = 1 + (measure s + (measure o + measure a))

abbrev pub length_of : Deed → ℕ
length_of done = 1
length_of (set cell e then) = 1 + length_of then
length_of (keep cell then) = 1 + length_of then
length_of (fork e one other then) = 1 + (length_of one + (length_of other + length_of then))
length_of (answer e) = 1
length_of give_up = 1
