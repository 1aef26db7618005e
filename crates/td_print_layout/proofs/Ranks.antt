-- Each operator is of the level in which it is spelled.
use Rattle.std.proofs.Common.{◌≡◌, ℕ, true, List, [], Option, Some, None, refl, subst, arith}
use Rattle.td_ast.specs.declared.token.Token.{Token}
use Rattle.td_ast.specs.declared.token.Span.{Span}
use Rattle.td_ast.specs.declared.token.TokenKind.{TokenKind}
use Rattle.td_ast.specs.declared.token.TokenKind.TheVariants as kinds
use Rattle.td_ast.specs.declared.expressions.BinaryOperator.{BinaryOperator}
use Rattle.td_ast.specs.declared.expressions.BinaryOperator.TheVariants as operators
use Rattle.td_ast.specs.Kinds.{number_of_kind}
use Rattle.td_grammar.specs.Sets.{member}
use Rattle.td_grammar.specs.Limits.{count}
use Rattle.td_grammar.specs.Scan.{counted}
use Rattle.td_grammar.specs.Grammar.{Grammar}
use Rattle.td_grammar.specs.Tokens.{word, beside}
use Rattle.td_grammar.specs.Operators.{product_kinds, product_operator, product_operator_of, sum_kinds, sum_operator, sum_operator_of, shift_kinds, shift_operator, shift_operator_of, order_kinds, order_operator, order_operator_of, equality_kinds, equality_operator, equality_operator_of, bit_and_kinds, bit_and_operator, bit_and_operator_of, bit_xor_kinds, bit_xor_operator, bit_xor_operator_of, bit_or_kinds, bit_or_operator, bit_or_operator_of, and_kinds, and_operator, and_operator_of, or_kinds, or_operator, or_operator_of, unary_kinds, unary_operator, unary_operator_of}
use Rattle.td_grammar.proofs.Sets.{covered}
use Rattle.td_grammar.proofs.Exact.{IsExact}
use Rattle.td_grammar.proofs.Seen.{covers}
use Rattle.td_grammar.proofs.Levels.{product_word, sum_word, shift_word, order_word, equality_word, bit_and_word, bit_xor_word, bit_or_word, and_word, or_word, unary_word}
use Rattle.td_print_layout.specs.Operators.{level_of, left_of, right_of}

-- an operator of a level, and what it takes on its left and on its right
abbrev pub OfLevel : ℕ → ℕ → ℕ → BinaryOperator → Type 0
OfLevel level left right o = (level_of o ≡ level) × (left_of o ≡ left) × (right_of o ≡ right)

by_value : (level left right : ℕ) (a o : BinaryOperator) → Some a ≡ Some o → OfLevel level left right a → OfLevel level left right o
by_value level left right a o e p = let same : a ≡ o = cc in subst (OfLevel level left right) same p

beside_of : {A : Type 0} (o : Option A) (s : Span) (x : A × Span) → beside o s ≡ Some x → o ≡ Some x.0
beside_of None s x e = absurd cc
beside_of (Some a) s x e = cc

-- the token of an operator is counted
word_counted : {A : Type 0} (set : List ℕ) (meaning : TokenKind → Option A) → IsExact (word set meaning) → covered set counted ≡ true → (x : A × Span) (tokens : List Token) → (word set meaning).Spells x tokens → count counted tokens ≡ 1
word_counted set meaning G c x tokens (t, e, f) =
    let begins : member set (number_of_kind t.kind) ≡ true = G.begun x t [] (t, refl, f) in
    let is : member counted (number_of_kind t.kind) ≡ true = covers set counted (number_of_kind t.kind) c begins in
    rw (e, is) (omega arith)

-- an operator production of a level
pub record Operator (g : Grammar (BinaryOperator × Span)) (rank left right : ℕ) : Type 0 where
  pub level : (x : BinaryOperator × Span) (tokens : List Token) → g.Spells x tokens → OfLevel rank left right x.0
  pub counts : (x : BinaryOperator × Span) (tokens : List Token) → g.Spells x tokens → count counted tokens ≡ 1

operator_by : (set : List ℕ) (meaning : TokenKind → Option BinaryOperator) (level left right : ℕ) → IsExact (word set meaning) → covered set counted ≡ true
    → ((k : TokenKind) (o : BinaryOperator) → meaning k ≡ Some o → OfLevel level left right o) → Operator (word set meaning) level left right
operator_by set meaning level left right G c of = record {
  level = λ x tokens (t, e, f). of t.kind x.0 (beside_of (meaning t.kind) t.span x f);
  counts = λ x tokens s. word_counted set meaning G c x tokens s;
}

product_level : (k : TokenKind) (o : BinaryOperator) → product_operator_of k ≡ Some o → OfLevel 2 2 1 o
product_level kinds.Star o e = by_value 2 2 1 operators.Multiply o e (refl, refl, refl)
product_level kinds.Slash o e = by_value 2 2 1 operators.Divide o e (refl, refl, refl)
product_level kinds.Percent o e = by_value 2 2 1 operators.Remainder o e (refl, refl, refl)
product_level _ o e = absurd cc

pub product_is : Operator product_operator 2 2 1
product_is = operator_by product_kinds product_operator_of 2 2 1 product_word refl product_level

sum_level : (k : TokenKind) (o : BinaryOperator) → sum_operator_of k ≡ Some o → OfLevel 3 3 2 o
sum_level kinds.Plus o e = by_value 3 3 2 operators.Add o e (refl, refl, refl)
sum_level kinds.Minus o e = by_value 3 3 2 operators.Subtract o e (refl, refl, refl)
sum_level _ o e = absurd cc

pub sum_is : Operator sum_operator 3 3 2
sum_is = operator_by sum_kinds sum_operator_of 3 3 2 sum_word refl sum_level

shift_level : (k : TokenKind) (o : BinaryOperator) → shift_operator_of k ≡ Some o → OfLevel 4 4 3 o
shift_level kinds.ShiftLeft o e = by_value 4 4 3 operators.ShiftLeft o e (refl, refl, refl)
shift_level kinds.ShiftRight o e = by_value 4 4 3 operators.ShiftRight o e (refl, refl, refl)
shift_level _ o e = absurd cc

pub shift_is : Operator shift_operator 4 4 3
shift_is = operator_by shift_kinds shift_operator_of 4 4 3 shift_word refl shift_level

order_level : (k : TokenKind) (o : BinaryOperator) → order_operator_of k ≡ Some o → OfLevel 5 4 4 o
order_level kinds.Less o e = by_value 5 4 4 operators.Less o e (refl, refl, refl)
order_level kinds.LessEqual o e = by_value 5 4 4 operators.LessEqual o e (refl, refl, refl)
order_level kinds.Greater o e = by_value 5 4 4 operators.Greater o e (refl, refl, refl)
order_level kinds.GreaterEqual o e = by_value 5 4 4 operators.GreaterEqual o e (refl, refl, refl)
order_level _ o e = absurd cc

pub order_is : Operator order_operator 5 4 4
order_is = operator_by order_kinds order_operator_of 5 4 4 order_word refl order_level

equality_level : (k : TokenKind) (o : BinaryOperator) → equality_operator_of k ≡ Some o → OfLevel 6 5 5 o
equality_level kinds.EqualEqual o e = by_value 6 5 5 operators.Equal o e (refl, refl, refl)
equality_level kinds.NotEqual o e = by_value 6 5 5 operators.NotEqual o e (refl, refl, refl)
equality_level _ o e = absurd cc

pub equality_is : Operator equality_operator 6 5 5
equality_is = operator_by equality_kinds equality_operator_of 6 5 5 equality_word refl equality_level

bit_and_level : (k : TokenKind) (o : BinaryOperator) → bit_and_operator_of k ≡ Some o → OfLevel 7 7 6 o
bit_and_level kinds.Ampersand o e = by_value 7 7 6 operators.BitAnd o e (refl, refl, refl)
bit_and_level _ o e = absurd cc

pub bit_and_is : Operator bit_and_operator 7 7 6
bit_and_is = operator_by bit_and_kinds bit_and_operator_of 7 7 6 bit_and_word refl bit_and_level

bit_xor_level : (k : TokenKind) (o : BinaryOperator) → bit_xor_operator_of k ≡ Some o → OfLevel 8 8 7 o
bit_xor_level kinds.Caret o e = by_value 8 8 7 operators.BitXor o e (refl, refl, refl)
bit_xor_level _ o e = absurd cc

pub bit_xor_is : Operator bit_xor_operator 8 8 7
bit_xor_is = operator_by bit_xor_kinds bit_xor_operator_of 8 8 7 bit_xor_word refl bit_xor_level

bit_or_level : (k : TokenKind) (o : BinaryOperator) → bit_or_operator_of k ≡ Some o → OfLevel 9 9 8 o
bit_or_level kinds.Bar o e = by_value 9 9 8 operators.BitOr o e (refl, refl, refl)
bit_or_level _ o e = absurd cc

pub bit_or_is : Operator bit_or_operator 9 9 8
bit_or_is = operator_by bit_or_kinds bit_or_operator_of 9 9 8 bit_or_word refl bit_or_level

and_level : (k : TokenKind) (o : BinaryOperator) → and_operator_of k ≡ Some o → OfLevel 10 10 9 o
and_level kinds.AndAnd o e = by_value 10 10 9 operators.And o e (refl, refl, refl)
and_level _ o e = absurd cc

pub and_is : Operator and_operator 10 10 9
and_is = operator_by and_kinds and_operator_of 10 10 9 and_word refl and_level

or_level : (k : TokenKind) (o : BinaryOperator) → or_operator_of k ≡ Some o → OfLevel 11 11 10 o
or_level kinds.OrOr o e = by_value 11 11 10 operators.Or o e (refl, refl, refl)
or_level _ o e = absurd cc

pub or_is : Operator or_operator 11 11 10
or_is = operator_by or_kinds or_operator_of 11 11 10 or_word refl or_level

pub unary_counts : (x : _) (tokens : List Token) → unary_operator.Spells x tokens → count counted tokens ≡ 1
unary_counts x tokens s = word_counted unary_kinds unary_operator_of unary_word refl x tokens s
