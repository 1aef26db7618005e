-- The operators of expressions, and the tokens that stand for them (3D manual, "Constraints"; C's operators, ISO/IEC 9899,
-- 6.5).
use Rattle.std.specs.Prelude.{ℕ, Bool, true, false, List, [], ◌∷◌, Option, Some, None}
use Rattle.td_ast.specs.declared.token.Span.{Span}
use Rattle.td_ast.specs.declared.token.TokenKind.{TokenKind}
use Rattle.td_ast.specs.declared.token.TokenKind.TheVariants as kinds
use Rattle.td_ast.specs.declared.expressions.UnaryOperator.{UnaryOperator}
use Rattle.td_ast.specs.declared.expressions.UnaryOperator.TheVariants.{Not, Complement}
use Rattle.td_ast.specs.declared.expressions.BinaryOperator.{BinaryOperator}
use Rattle.td_ast.specs.declared.expressions.BinaryOperator.TheVariants as operators
use Rattle.td_grammar.specs.Sets.{set_of}
use Rattle.td_grammar.specs.Grammar.{Grammar}
use Rattle.td_grammar.specs.Tokens.{word}

abbrev pub unary_operator_of : TokenKind → Option UnaryOperator
unary_operator_of kinds.Bang = Some Not
unary_operator_of kinds.Tilde = Some Complement
unary_operator_of _ = None

abbrev pub unary_kinds : List ℕ
unary_kinds = set_of (kinds.Bang ∷ kinds.Tilde ∷ [])

abbrev pub unary_operator : Grammar (UnaryOperator × Span)
unary_operator = word unary_kinds unary_operator_of

abbrev pub product_operator_of : TokenKind → Option BinaryOperator
product_operator_of kinds.Star = Some operators.Multiply
product_operator_of kinds.Slash = Some operators.Divide
product_operator_of kinds.Percent = Some operators.Remainder
product_operator_of _ = None

abbrev pub product_kinds : List ℕ
product_kinds = set_of (kinds.Star ∷ kinds.Slash ∷ kinds.Percent ∷ [])

abbrev pub product_operator : Grammar (BinaryOperator × Span)
product_operator = word product_kinds product_operator_of

abbrev pub sum_operator_of : TokenKind → Option BinaryOperator
sum_operator_of kinds.Plus = Some operators.Add
sum_operator_of kinds.Minus = Some operators.Subtract
sum_operator_of _ = None

abbrev pub sum_kinds : List ℕ
sum_kinds = set_of (kinds.Plus ∷ kinds.Minus ∷ [])

abbrev pub sum_operator : Grammar (BinaryOperator × Span)
sum_operator = word sum_kinds sum_operator_of

abbrev pub shift_operator_of : TokenKind → Option BinaryOperator
shift_operator_of kinds.ShiftLeft = Some operators.ShiftLeft
shift_operator_of kinds.ShiftRight = Some operators.ShiftRight
shift_operator_of _ = None

abbrev pub shift_kinds : List ℕ
shift_kinds = set_of (kinds.ShiftLeft ∷ kinds.ShiftRight ∷ [])

abbrev pub shift_operator : Grammar (BinaryOperator × Span)
shift_operator = word shift_kinds shift_operator_of

abbrev pub order_operator_of : TokenKind → Option BinaryOperator
order_operator_of kinds.Less = Some operators.Less
order_operator_of kinds.LessEqual = Some operators.LessEqual
order_operator_of kinds.Greater = Some operators.Greater
order_operator_of kinds.GreaterEqual = Some operators.GreaterEqual
order_operator_of _ = None

abbrev pub order_kinds : List ℕ
order_kinds = set_of (kinds.Less ∷ kinds.LessEqual ∷ kinds.Greater ∷ kinds.GreaterEqual ∷ [])

abbrev pub order_operator : Grammar (BinaryOperator × Span)
order_operator = word order_kinds order_operator_of

abbrev pub equality_operator_of : TokenKind → Option BinaryOperator
equality_operator_of kinds.EqualEqual = Some operators.Equal
equality_operator_of kinds.NotEqual = Some operators.NotEqual
equality_operator_of _ = None

abbrev pub equality_kinds : List ℕ
equality_kinds = set_of (kinds.EqualEqual ∷ kinds.NotEqual ∷ [])

abbrev pub equality_operator : Grammar (BinaryOperator × Span)
equality_operator = word equality_kinds equality_operator_of

abbrev pub bit_and_operator_of : TokenKind → Option BinaryOperator
bit_and_operator_of kinds.Ampersand = Some operators.BitAnd
bit_and_operator_of _ = None

abbrev pub bit_and_kinds : List ℕ
bit_and_kinds = set_of (kinds.Ampersand ∷ [])

abbrev pub bit_and_operator : Grammar (BinaryOperator × Span)
bit_and_operator = word bit_and_kinds bit_and_operator_of

abbrev pub bit_xor_operator_of : TokenKind → Option BinaryOperator
bit_xor_operator_of kinds.Caret = Some operators.BitXor
bit_xor_operator_of _ = None

abbrev pub bit_xor_kinds : List ℕ
bit_xor_kinds = set_of (kinds.Caret ∷ [])

abbrev pub bit_xor_operator : Grammar (BinaryOperator × Span)
bit_xor_operator = word bit_xor_kinds bit_xor_operator_of

abbrev pub bit_or_operator_of : TokenKind → Option BinaryOperator
bit_or_operator_of kinds.Bar = Some operators.BitOr
bit_or_operator_of _ = None

abbrev pub bit_or_kinds : List ℕ
bit_or_kinds = set_of (kinds.Bar ∷ [])

abbrev pub bit_or_operator : Grammar (BinaryOperator × Span)
bit_or_operator = word bit_or_kinds bit_or_operator_of

abbrev pub and_operator_of : TokenKind → Option BinaryOperator
and_operator_of kinds.AndAnd = Some operators.And
and_operator_of _ = None

abbrev pub and_kinds : List ℕ
and_kinds = set_of (kinds.AndAnd ∷ [])

abbrev pub and_operator : Grammar (BinaryOperator × Span)
and_operator = word and_kinds and_operator_of

abbrev pub or_operator_of : TokenKind → Option BinaryOperator
or_operator_of kinds.OrOr = Some operators.Or
or_operator_of _ = None

abbrev pub or_kinds : List ℕ
or_kinds = set_of (kinds.OrOr ∷ [])

abbrev pub or_operator : Grammar (BinaryOperator × Span)
or_operator = word or_kinds or_operator_of

abbrev pub truth_of : TokenKind → Option Bool
truth_of kinds.True = Some true
truth_of kinds.False = Some false
truth_of _ = None

abbrev pub truth_kinds : List ℕ
truth_kinds = set_of (kinds.True ∷ kinds.False ∷ [])

abbrev pub truth : Grammar (Bool × Span)
truth = word truth_kinds truth_of
