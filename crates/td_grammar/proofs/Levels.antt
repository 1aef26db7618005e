-- The levels of expressions are exact. Cited by other crates.
use Rattle.std.proofs.Common.{◌≡◌, ℕ, true, false, List, [], Option, Some, refl}
use Rattle.td_ast.specs.declared.token.Span.{Span}
use Rattle.td_ast.specs.declared.token.TokenKind.{TokenKind}
use Rattle.td_ast.specs.declared.token.TokenKind.TheVariants as kinds
use Rattle.td_ast.specs.declared.expressions.UnaryOperator.TheVariants as unaries
use Rattle.td_ast.specs.declared.expressions.BinaryOperator.{BinaryOperator}
use Rattle.td_ast.specs.declared.expressions.BinaryOperator.TheVariants as operators
use Rattle.td_ast.specs.Trees.{Tree}
use Rattle.td_ast.specs.Kinds.{number_of_kind}
use Rattle.td_grammar.specs.Sets.{member}
use Rattle.td_grammar.specs.Grammar.{Grammar, ◌then◌}
use Rattle.td_grammar.specs.Tokens.{word}
use Rattle.td_grammar.specs.Expressions.{level, leaning, comparing, sizeof_operand, opened, branched, prim_from, un_from, expr_from, products, sums, shifts, orders, equalities, bit_ands, bit_xors, bit_ors, ands, ors}
use Rattle.td_grammar.specs.Operators.{unary_operator_of, product_operator_of, sum_operator_of, shift_operator_of, order_operator_of, equality_operator_of, bit_and_operator_of, bit_xor_operator_of, bit_or_operator_of, and_operator_of, or_operator_of, truth_of, unary_operator, and_kinds, bit_and_kinds, bit_or_kinds, bit_xor_kinds, equality_kinds, or_kinds, order_kinds, product_kinds, shift_kinds, sum_kinds, truth_kinds, unary_kinds}
use Rattle.td_grammar.specs.Ahead.{begins, names_go_on, products_go_on, sums_go_on, shifts_go_on, orders_go_on, equalities_go_on, bit_ands_go_on, bit_xors_go_on, bit_ors_go_on, ands_go_on, ors_go_on}
use Rattle.td_grammar.proofs.Sets.{disjoint, covered}
use Rattle.td_grammar.proofs.Exact.{IsExact}
use Rattle.td_grammar.proofs.Making.{making_exact}
use Rattle.td_grammar.proofs.Maybe.{maybe_exact}
use Rattle.td_grammar.proofs.All.{all_exact}
use Rattle.td_grammar.proofs.Either.{or_exact}
use Rattle.td_grammar.proofs.Seen.{seen_exact}
use Rattle.td_grammar.proofs.Words.{terminal_exact, literal_exact, number_type_exact, word_exact, sequel}
use Rattle.td_grammar.proofs.Qualified.{qualified_exact}

unary_known : (k : TokenKind) (a : _) → unary_operator_of k ≡ Some a → member unary_kinds (number_of_kind k) ≡ true
unary_known kinds.Bang a e = refl
unary_known kinds.Tilde a e = refl
unary_known _ a e = absurd cc

pub unary_word : IsExact (word unary_kinds unary_operator_of)
unary_word = word_exact unary_kinds unary_operator_of kinds.Bang unaries.Not refl unary_known

product_known : (k : TokenKind) (a : _) → product_operator_of k ≡ Some a → member product_kinds (number_of_kind k) ≡ true
product_known kinds.Star a e = refl
product_known kinds.Slash a e = refl
product_known kinds.Percent a e = refl
product_known _ a e = absurd cc

pub product_word : IsExact (word product_kinds product_operator_of)
product_word = word_exact product_kinds product_operator_of kinds.Star operators.Multiply refl product_known

sum_known : (k : TokenKind) (a : _) → sum_operator_of k ≡ Some a → member sum_kinds (number_of_kind k) ≡ true
sum_known kinds.Plus a e = refl
sum_known kinds.Minus a e = refl
sum_known _ a e = absurd cc

pub sum_word : IsExact (word sum_kinds sum_operator_of)
sum_word = word_exact sum_kinds sum_operator_of kinds.Plus operators.Add refl sum_known

shift_known : (k : TokenKind) (a : _) → shift_operator_of k ≡ Some a → member shift_kinds (number_of_kind k) ≡ true
shift_known kinds.ShiftLeft a e = refl
shift_known kinds.ShiftRight a e = refl
shift_known _ a e = absurd cc

pub shift_word : IsExact (word shift_kinds shift_operator_of)
shift_word = word_exact shift_kinds shift_operator_of kinds.ShiftLeft operators.ShiftLeft refl shift_known

order_known : (k : TokenKind) (a : _) → order_operator_of k ≡ Some a → member order_kinds (number_of_kind k) ≡ true
order_known kinds.Less a e = refl
order_known kinds.LessEqual a e = refl
order_known kinds.Greater a e = refl
order_known kinds.GreaterEqual a e = refl
order_known _ a e = absurd cc

pub order_word : IsExact (word order_kinds order_operator_of)
order_word = word_exact order_kinds order_operator_of kinds.Less operators.Less refl order_known

equality_known : (k : TokenKind) (a : _) → equality_operator_of k ≡ Some a → member equality_kinds (number_of_kind k) ≡ true
equality_known kinds.EqualEqual a e = refl
equality_known kinds.NotEqual a e = refl
equality_known _ a e = absurd cc

pub equality_word : IsExact (word equality_kinds equality_operator_of)
equality_word = word_exact equality_kinds equality_operator_of kinds.EqualEqual operators.Equal refl equality_known

bit_and_known : (k : TokenKind) (a : _) → bit_and_operator_of k ≡ Some a → member bit_and_kinds (number_of_kind k) ≡ true
bit_and_known kinds.Ampersand a e = refl
bit_and_known _ a e = absurd cc

pub bit_and_word : IsExact (word bit_and_kinds bit_and_operator_of)
bit_and_word = word_exact bit_and_kinds bit_and_operator_of kinds.Ampersand operators.BitAnd refl bit_and_known

bit_xor_known : (k : TokenKind) (a : _) → bit_xor_operator_of k ≡ Some a → member bit_xor_kinds (number_of_kind k) ≡ true
bit_xor_known kinds.Caret a e = refl
bit_xor_known _ a e = absurd cc

pub bit_xor_word : IsExact (word bit_xor_kinds bit_xor_operator_of)
bit_xor_word = word_exact bit_xor_kinds bit_xor_operator_of kinds.Caret operators.BitXor refl bit_xor_known

bit_or_known : (k : TokenKind) (a : _) → bit_or_operator_of k ≡ Some a → member bit_or_kinds (number_of_kind k) ≡ true
bit_or_known kinds.Bar a e = refl
bit_or_known _ a e = absurd cc

pub bit_or_word : IsExact (word bit_or_kinds bit_or_operator_of)
bit_or_word = word_exact bit_or_kinds bit_or_operator_of kinds.Bar operators.BitOr refl bit_or_known

and_known : (k : TokenKind) (a : _) → and_operator_of k ≡ Some a → member and_kinds (number_of_kind k) ≡ true
and_known kinds.AndAnd a e = refl
and_known _ a e = absurd cc

pub and_word : IsExact (word and_kinds and_operator_of)
and_word = word_exact and_kinds and_operator_of kinds.AndAnd operators.And refl and_known

or_known : (k : TokenKind) (a : _) → or_operator_of k ≡ Some a → member or_kinds (number_of_kind k) ≡ true
or_known kinds.OrOr a e = refl
or_known _ a e = absurd cc

pub or_word : IsExact (word or_kinds or_operator_of)
or_word = word_exact or_kinds or_operator_of kinds.OrOr operators.Or refl or_known

truth_known : (k : TokenKind) (a : _) → truth_of k ≡ Some a → member truth_kinds (number_of_kind k) ≡ true
truth_known kinds.True a e = refl
truth_known kinds.False a e = refl
truth_known _ a e = absurd cc

pub truth_word : IsExact (word truth_kinds truth_of)
truth_word = word_exact truth_kinds truth_of kinds.True true refl truth_known

-- ---- levels

level_exact : (goes_on : List ℕ) (g : Grammar Tree) → IsExact g → g.reader.may_be_empty ≡ false → covered g.reader.begins begins ≡ true → covered g.reader.goes_on goes_on ≡ true → IsExact (level goes_on g)
level_exact goes_on g G solid b c = seen_exact g.Spells begins goes_on g G (λ a t s. s) (λ a t s. s) solid b c

module _ (set : List ℕ) (meaning : TokenKind → Option BinaryOperator) (W : IsExact (word set meaning)) (goes_on : List ℕ) (g : Grammar Tree) (G : IsExact (level goes_on g)) (c : disjoint set goes_on ≡ true) where
  leaning_exact : IsExact (leaning (word set meaning) (level goes_on g))
  leaning_exact = making_exact _ _ (sequel G (all_exact (word set meaning then level goes_on g) (sequel W G refl) refl c) c)

  comparing_exact : IsExact (comparing (word set meaning) (level goes_on g))
  comparing_exact = making_exact _ _ (sequel G (maybe_exact (word set meaning then level goes_on g) (sequel W G refl) refl) c)

module _ (un : Grammar Tree) (U : IsExact (level names_go_on un)) where
  pub products_exact : IsExact (level products_go_on (products un))
  products_exact = level_exact products_go_on (products un) (leaning_exact _ _ product_word names_go_on (un) U refl) refl refl refl

  pub sums_exact : IsExact (level sums_go_on (sums un))
  sums_exact = level_exact sums_go_on (sums un) (leaning_exact _ _ sum_word products_go_on (products un) products_exact refl) refl refl refl

  pub shifts_exact : IsExact (level shifts_go_on (shifts un))
  shifts_exact = level_exact shifts_go_on (shifts un) (leaning_exact _ _ shift_word sums_go_on (sums un) sums_exact refl) refl refl refl

  pub orders_exact : IsExact (level orders_go_on (orders un))
  orders_exact = level_exact orders_go_on (orders un) (comparing_exact _ _ order_word shifts_go_on (shifts un) shifts_exact refl) refl refl refl

  pub equalities_exact : IsExact (level equalities_go_on (equalities un))
  equalities_exact = level_exact equalities_go_on (equalities un) (comparing_exact _ _ equality_word orders_go_on (orders un) orders_exact refl) refl refl refl

  pub bit_ands_exact : IsExact (level bit_ands_go_on (bit_ands un))
  bit_ands_exact = level_exact bit_ands_go_on (bit_ands un) (leaning_exact _ _ bit_and_word equalities_go_on (equalities un) equalities_exact refl) refl refl refl

  pub bit_xors_exact : IsExact (level bit_xors_go_on (bit_xors un))
  bit_xors_exact = level_exact bit_xors_go_on (bit_xors un) (leaning_exact _ _ bit_xor_word bit_ands_go_on (bit_ands un) bit_ands_exact refl) refl refl refl

  pub bit_ors_exact : IsExact (level bit_ors_go_on (bit_ors un))
  bit_ors_exact = level_exact bit_ors_go_on (bit_ors un) (leaning_exact _ _ bit_or_word bit_xors_go_on (bit_xors un) bit_xors_exact refl) refl refl refl

  pub ands_exact : IsExact (level ands_go_on (ands un))
  ands_exact = level_exact ands_go_on (ands un) (leaning_exact _ _ and_word bit_ors_go_on (bit_ors un) bit_ors_exact refl) refl refl refl

  pub ors_exact : IsExact (level ors_go_on (ors un))
  ors_exact = level_exact ors_go_on (ors un) (leaning_exact _ _ or_word ands_go_on (ands un) ands_exact refl) refl refl refl

pub sizeof_operand_exact : IsExact sizeof_operand
sizeof_operand_exact =
    or_exact _ _ (making_exact _ _ number_type_exact) (or_exact _ _ (making_exact _ _ qualified_exact) (making_exact _ _ (terminal_exact kinds.This refl)) refl refl refl) refl refl refl

module _ (group : Grammar Tree) (triple : Grammar (Tree × Tree × Tree × Span)) (branches : Grammar (Span × Tree × Tree))
    (G : IsExact (opened group)) (T : IsExact (opened triple)) (B : IsExact (branched branches)) where
  prim_exact : IsExact (prim_from group triple)
  prim_exact =
      or_exact _ _ (making_exact _ _ literal_exact)
      (or_exact _ _ (making_exact _ _ qualified_exact)
      (or_exact _ _ (making_exact _ _ truth_word)
      (or_exact _ _ (making_exact _ _ (terminal_exact kinds.FieldPos refl))
      (or_exact _ _ (making_exact _ _ (sequel (terminal_exact kinds.Sizeof refl) (sequel (terminal_exact kinds.OpenParen refl) (sequel sizeof_operand_exact (terminal_exact kinds.CloseParen refl) refl) refl) refl))
      (or_exact _ _ G (making_exact _ _ (sequel (terminal_exact kinds.IsRangeOkay refl) T refl)) refl refl refl)
      refl refl refl) refl refl refl) refl refl refl) refl refl refl) refl refl refl

  pub un_exact : IsExact (level names_go_on (un_from group triple))
  un_exact = level_exact names_go_on _ (making_exact _ _ (sequel (all_exact unary_operator unary_word refl refl) prim_exact refl)) refl refl refl

  pub expr_from_exact : IsExact (expr_from group triple branches)
  expr_from_exact = making_exact _ _ (sequel (ors_exact (un_from group triple) un_exact) (maybe_exact _ B refl) refl)
