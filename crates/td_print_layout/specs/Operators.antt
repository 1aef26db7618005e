-- Operators: the token of each, and how tightly it binds (C's precedence, ISO/IEC 9899, 6.5).
use Rattle.std.specs.Prelude.{ℕ, ◌-◌, Bool, true, false, if◌then◌else◌}
use Rattle.td_ast.specs.declared.token.TokenKind.{TokenKind}
use Rattle.td_ast.specs.declared.token.TokenKind.TheVariants as kinds
use Rattle.td_ast.specs.declared.expressions.UnaryOperator.{UnaryOperator}
use Rattle.td_ast.specs.declared.expressions.UnaryOperator.TheVariants.{Not, Complement}
use Rattle.td_ast.specs.declared.expressions.BinaryOperator.{BinaryOperator}
use Rattle.td_ast.specs.declared.expressions.BinaryOperator.TheVariants as operators

abbrev pub unary_kind : UnaryOperator → TokenKind
unary_kind Not = kinds.Bang
unary_kind Complement = kinds.Tilde

abbrev pub binary_kind : BinaryOperator → TokenKind
binary_kind operators.Multiply = kinds.Star
binary_kind operators.Divide = kinds.Slash
binary_kind operators.Remainder = kinds.Percent
binary_kind operators.Add = kinds.Plus
binary_kind operators.Subtract = kinds.Minus
binary_kind operators.ShiftLeft = kinds.ShiftLeft
binary_kind operators.ShiftRight = kinds.ShiftRight
binary_kind operators.Less = kinds.Less
binary_kind operators.LessEqual = kinds.LessEqual
binary_kind operators.Greater = kinds.Greater
binary_kind operators.GreaterEqual = kinds.GreaterEqual
binary_kind operators.Equal = kinds.EqualEqual
binary_kind operators.NotEqual = kinds.NotEqual
binary_kind operators.BitAnd = kinds.Ampersand
binary_kind operators.BitXor = kinds.Caret
binary_kind operators.BitOr = kinds.Bar
binary_kind operators.And = kinds.AndAnd
binary_kind operators.Or = kinds.OrOr

-- The level of an operator: a tighter one has a lower level. What stands alone is of level 0, what begins with `!` or
-- `~` of level 1, `? :` of level 12.
abbrev pub level_of : BinaryOperator → ℕ
level_of operators.Multiply = 2
level_of operators.Divide = 2
level_of operators.Remainder = 2
level_of operators.Add = 3
level_of operators.Subtract = 3
level_of operators.ShiftLeft = 4
level_of operators.ShiftRight = 4
level_of operators.Less = 5
level_of operators.LessEqual = 5
level_of operators.Greater = 5
level_of operators.GreaterEqual = 5
level_of operators.Equal = 6
level_of operators.NotEqual = 6
level_of operators.BitAnd = 7
level_of operators.BitXor = 8
level_of operators.BitOr = 9
level_of operators.And = 10
level_of operators.Or = 11

-- a comparison stands beside no other of its level (own rule; C lets it lean to the left)
abbrev pub compares : BinaryOperator → Bool
compares operators.Less = true
compares operators.LessEqual = true
compares operators.Greater = true
compares operators.GreaterEqual = true
compares operators.Equal = true
compares operators.NotEqual = true
compares _ = false

-- the loosest level that stands on its left without parentheses: its own, as operators lean to the left
abbrev pub left_of : BinaryOperator → ℕ
left_of operator = if compares operator then level_of operator - 1 else level_of operator

-- the loosest level that stands on its right without parentheses
abbrev pub right_of : BinaryOperator → ℕ
right_of operator = level_of operator - 1
