-- The canonical form of an expression can be spelled where the tokens that spell it can.
use Rattle.std.proofs.Common.{ℕ, zero, suc, nat_le, Bool, true, false, List, [], ◌∷◌, ◌++◌, Option, Some, None, subst}
use Rattle.td_ast.specs.declared.token.Token.{Token}
use Rattle.td_ast.specs.declared.token.Span.{Span}
use Rattle.td_ast.specs.declared.token.TokenKind.TheVariants as kinds
use Rattle.td_ast.specs.declared.expressions.UnaryOperator.{UnaryOperator}
use Rattle.td_ast.specs.declared.expressions.UnaryOperator.TheVariants.{Not, Complement}
use Rattle.td_ast.specs.declared.expressions.BinaryOperator.{BinaryOperator}
use Rattle.td_ast.specs.declared.expressions.BinaryOperator.TheVariants as operators
use Rattle.td_ast.specs.Trees.{Tree, Number, Truth, Name, FieldPos, Sizeof, RangeOkay, Unary, Binary, Choice, spanned, over}
use Rattle.td_grammar.specs.Spelling.{SpellsAll, NestedBelow}
use Rattle.td_grammar.specs.Grammar.{Grammar, ◌then◌, spelled_by}
use Rattle.td_grammar.specs.Grammar as grammar
use Rattle.td_grammar.specs.Operators.{truth, product_operator, sum_operator, shift_operator, order_operator, equality_operator, bit_and_operator, bit_xor_operator, bit_or_operator, and_operator, or_operator}
use Rattle.td_grammar.specs.Expressions.{expr_body, group_of, triple_of, branches_of, branched, prim_from, un_from, products, sums, shifts, orders, equalities, bit_ands, bit_xors, bit_ors, ands, ors, lean, binary, applied, chosen, compared, leaning, comparing, sizeof_operand, expr}
use Rattle.td_print_layout.specs.Pieces.{Piece, Word, Blank}
use Rattle.td_print_layout.specs.Joining.{IsSpellable}
use Rattle.td_print_layout.specs.Operators.{unary_kind, binary_kind, left_of, right_of}
use Rattle.td_print_layout.specs.Expressions.{tree_level, in_group, fitted, truth_kind, operand_pieces, expression_pieces}
use Rattle.td_print_layout.proofs.Tokens.{kinds_in}
use Rattle.td_print_layout.proofs.Sound.{AreSpellable, Fine, Sound, fine_append, fine_left, parts, blank, both, made, either, terminal_sound, qualified_sound, literal_sound, number_sound}

-- ---- trees

abbrev FineTree : Tree → Type 0
FineTree a = Fine (expression_pieces a)

fine_group : (b : Bool) (u : List Piece) → Fine u → Fine (in_group b u)
fine_group true u f = f
fine_group false u f = (tt, fine_append u (Word kinds.CloseParen ∷ []) f (tt, tt))

fine_fitted : (k : ℕ) (a : Tree) → FineTree a → Fine (fitted k a (expression_pieces a))
fine_fitted k a f = fine_group (nat_le (tree_level a) k) (expression_pieces a) f

fine_spanned : (s : Span) (a : Tree) → FineTree a → FineTree (spanned s a)
fine_spanned s (Number q n b) f = f
fine_spanned s (Truth q b) f = f
fine_spanned s (Name q n) f = f
fine_spanned s (FieldPos q p) f = f
fine_spanned s (Sizeof q w o p) f = f
fine_spanned s (RangeOkay q a b c) f = f
fine_spanned s (Unary q o p a) f = f
fine_spanned s (Binary q o p a b) f = f
fine_spanned s (Choice q p a b c) f = f

unary_fixed : (o : UnaryOperator) → IsSpellable (unary_kind o)
unary_fixed Not = tt
unary_fixed Complement = tt

binary_fixed : (o : BinaryOperator) → IsSpellable (binary_kind o)
binary_fixed operators.Multiply = tt
binary_fixed _ = tt

truth_fixed : (b : Bool) → IsSpellable (truth_kind b)
truth_fixed true = tt
truth_fixed false = tt

fine_binary : (x : BinaryOperator × Span) (a b : Tree) → FineTree a → FineTree b → FineTree (binary x a b)
fine_binary x a b f g =
    fine_append (fitted (left_of x.0) a (expression_pieces a)) (Blank ∷ Word (binary_kind x.0) ∷ Blank ∷ fitted (right_of x.0) b (expression_pieces b))
    (fine_fitted (left_of x.0) a f) (binary_fixed x.0, fine_fitted (right_of x.0) b g)

fine_applied : (ops : List (UnaryOperator × Span)) (a : Tree) → FineTree a → FineTree (applied ops a)
fine_applied [] a f = f
fine_applied (o ∷ ops) a f = (unary_fixed o.0, fine_fitted 1 (applied ops a) (fine_applied ops a f))

-- ---- levels

module _ (operator : Grammar (BinaryOperator × Span)) (g : Grammar Tree) (s : Sound g.Spells expression_pieces) where
  fine_lean : (left : Tree) (xs : List ((BinaryOperator × Span) × Tree)) (tokens : List Token) → FineTree left → SpellsAll (operator then g).Spells xs tokens → AreSpellable (kinds_in tokens) → FineTree (lean left xs)
  fine_lean left [] tokens l m f = l
  fine_lean left (x ∷ xs) tokens l (u, v, e, (o, w, d, q, r), rest) f =
      let h = parts tokens u v e f in
      let i = parts u o w d h.0 in
      fine_lean (binary x.0 left x.1) xs v (fine_binary x.0 left x.1 l (s.sound x.1 w r i.1)) rest h.1

  leaning_sound : Sound (leaning operator g).Spells expression_pieces
  leaning_sound = record { sound = by_parts }
    where
      by_parts : (a : Tree) (tokens : List Token) → (leaning operator g).Spells a tokens → AreSpellable (kinds_in tokens) → FineTree a
      by_parts a tokens (x, e, (u, v, d, q, r)) f =
          let h = parts tokens u v d f in
          subst FineTree e (fine_lean x.0 x.1 v (s.sound x.0 u q h.0) r h.1)

  fine_compared : (left : Tree) (o : Option ((BinaryOperator × Span) × Tree)) (tokens : List Token) → FineTree left → (grammar.maybe (operator then g)).Spells o tokens → AreSpellable (kinds_in tokens) → FineTree (compared left o)
  fine_compared left None tokens l m f = l
  fine_compared left (Some x) tokens l (o, w, d, q, r) f = let i = parts tokens o w d f in fine_binary x.0 left x.1 l (s.sound x.1 w r i.1)

  comparing_sound : Sound (comparing operator g).Spells expression_pieces
  comparing_sound = record { sound = by_parts }
    where
      by_parts : (a : Tree) (tokens : List Token) → (comparing operator g).Spells a tokens → AreSpellable (kinds_in tokens) → FineTree a
      by_parts a tokens (x, e, (u, v, d, q, r)) f =
          let h = parts tokens u v d f in
          subst FineTree e (fine_compared x.0 x.1 v (s.sound x.0 u q h.0) r h.1)

-- ---- by what the expressions in it are

operand_sound : Sound sizeof_operand.Spells (λ x. operand_pieces x.0)
operand_sound = either (made number_sound (λ x h. h)) (either (made qualified_sound (λ x h. h)) (made (terminal_sound kinds.This tt) (λ x h. h)))

truth_sound : Sound truth.Spells (λ x. Word (truth_kind x.0) ∷ [])
truth_sound = record { sound = λ x tokens m f. (truth_fixed x.0, tt) }

abbrev triple_pieces : Tree × Tree × Tree × Span → List Piece
triple_pieces x =
    Word kinds.OpenParen ∷ (expression_pieces x.0 ++ Word kinds.Comma ∷ Blank ∷ (expression_pieces x.1 ++ Word kinds.Comma ∷ Blank ∷ (expression_pieces x.2 ++ Word kinds.CloseParen ∷ [])))

module _ (P : Tree → List Token → Type 0) (inner : Sound P expression_pieces) where
  abbrev un : Grammar Tree
  un = un_from (group_of (spelled_by P)) (triple_of (spelled_by P))

  group_sound : Sound (group_of (spelled_by P)).Spells expression_pieces
  group_sound =
      made (both (terminal_sound kinds.OpenParen tt) (both inner (terminal_sound kinds.CloseParen tt)))
      (λ x h. fine_spanned (over x.0 x.1.1) x.1.0 (fine_left (expression_pieces x.1.0) (Word kinds.CloseParen ∷ []) h.1))

  triple_sound : Sound (triple_of (spelled_by P)).Spells triple_pieces
  triple_sound =
      made (both (terminal_sound kinds.OpenParen tt) (both inner (both (terminal_sound kinds.Comma tt) (both (blank inner) (both (terminal_sound kinds.Comma tt) (both (blank inner) (terminal_sound kinds.CloseParen tt)))))))
      (λ x h. h)

  prim_sound : Sound (prim_from (group_of (spelled_by P)) (triple_of (spelled_by P))).Spells expression_pieces
  prim_sound =
      either (made literal_sound (λ x h. h)) (either (made qualified_sound (λ x h. h)) (either (made truth_sound (λ x h. h)) (either (made (terminal_sound kinds.FieldPos tt) (λ x h. h))
      (either (made (both (terminal_sound kinds.Sizeof tt) (both (terminal_sound kinds.OpenParen tt) (both operand_sound (terminal_sound kinds.CloseParen tt)))) (λ x h. h))
      (either group_sound (made (both (terminal_sound kinds.IsRangeOkay tt) triple_sound) (λ x h. h)))))))

  un_sound : Sound un.Spells expression_pieces
  un_sound = record {
    sound = λ a tokens (x, e, (u, v, d, q, r)) f.
        let h = parts tokens u v d f in
        subst FineTree e (fine_applied x.0 x.1 (prim_sound.sound x.1 v r h.1));
  }

  ors_sound : Sound (ors un).Spells expression_pieces
  ors_sound =
      leaning_sound or_operator (ands un) (leaning_sound and_operator (bit_ors un) (leaning_sound bit_or_operator (bit_xors un) (leaning_sound bit_xor_operator (bit_ands un)
      (leaning_sound bit_and_operator (equalities un) (comparing_sound equality_operator (orders un) (comparing_sound order_operator (shifts un) (leaning_sound shift_operator (sums un)
      (leaning_sound sum_operator (products un) (leaning_sound product_operator un un_sound)))))))))

  fine_chosen : (c : Tree) (o : Option (Span × Tree × Tree)) (tokens : List Token) → FineTree c → (grammar.maybe (branched (branches_of (spelled_by P)))).Spells o tokens → AreSpellable (kinds_in tokens) → FineTree (chosen c o)
  fine_chosen c None tokens l m f = l
  fine_chosen c (Some x) tokens l (y, e, (u, v, d, q, (b, v1, d1, r1, (k, g, d2, r2, r3)))) f =
      let h = parts tokens u v d f in
      let i = parts v b v1 d1 h.1 in
      let j = parts v1 k g d2 i.1 in
      subst (λ (z : Span × Tree × Tree). FineTree (chosen c (Some z))) e
      (fine_append (fitted 11 c (expression_pieces c)) (Blank ∷ Word kinds.Question ∷ Blank ∷ (expression_pieces y.1.0 ++ Blank ∷ Word kinds.Colon ∷ Blank ∷ expression_pieces y.1.1.1))
      (fine_fitted 11 c l) (tt, fine_append (expression_pieces y.1.0) (Blank ∷ Word kinds.Colon ∷ Blank ∷ expression_pieces y.1.1.1) (inner.sound y.1.0 b r1 i.0) (tt, inner.sound y.1.1.1 g r3 j.1)))

  body_sound : Sound (expr_body P) expression_pieces
  body_sound = record {
    sound = λ a tokens (x, e, (u, v, d, q, r)) f.
        let h = parts tokens u v d f in
        subst FineTree e (fine_chosen x.0 x.1 v (ors_sound.sound x.0 u q h.0) r h.1);
  }

nested_sound : (n : ℕ) → Sound (NestedBelow expr_body n) expression_pieces
unfolding NestedBelow
nested_sound zero = record { sound = λ a tokens s f. absurd s }
nested_sound (suc n) = record { sound = λ a tokens s f. (body_sound (NestedBelow expr_body n) (nested_sound n)).sound a tokens s f }

pub expression_sound : Sound expr.Spells expression_pieces
unfolding expr
expression_sound = record { sound = λ a tokens (n, s) f. (nested_sound n).sound a tokens s f }
