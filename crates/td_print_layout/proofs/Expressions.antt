-- Expressions read back.
use Rattle.std.proofs.Common.{◌≡◌, ℕ, ◌≤◌, nat_le, leb, Bool, true, false, List, [], ◌∷◌, ◌++◌, Option, Some, None, refl, sym, ap, subst, ◌∙◌, arith}
use Rattle.std.proofs.lemmas.Bool.{leb-true}
use Rattle.td_ast.specs.declared.token.Token.{Token}
use Rattle.td_ast.specs.declared.token.Span.{Span}
use Rattle.td_ast.specs.declared.token.TokenKind.TheVariants as kinds
use Rattle.td_ast.specs.declared.names.Name as names
use Rattle.td_ast.specs.declared.names.Literal.{Literal}
use Rattle.td_ast.specs.declared.names.NumberTree.{NumberTree}
use Rattle.td_ast.specs.declared.expressions.SizeofOperand.{SizeofOperand}
use Rattle.td_ast.specs.declared.expressions.SizeofOperand.TheVariants as operands
use Rattle.td_ast.specs.Trees.{Tree, Number, Truth, Name, FieldPos, Sizeof, RangeOkay, Unary, Binary, Choice, spanned, over, span_of}
use Rattle.td_grammar.specs.Operators.{truth_kinds, truth_of}
use Rattle.td_grammar.specs.Expressions.{SpellsExpr, expr_body, binary, sizeof_operand, chosen, expr}
use Rattle.td_grammar.proofs.Steady.{nested_in}
use Rattle.td_grammar.proofs.Exprs.{steady_expr}
use Rattle.td_print_layout.specs.Pieces.{Piece, Word, Blank, kinds_of}
use Rattle.td_print_layout.specs.Operators.{unary_kind, binary_kind, level_of, left_of, right_of}
use Rattle.td_print_layout.specs.Expressions.{tree_level, in_group, fitted, truth_kind, operand_pieces, expression_pieces}
use Rattle.td_print_layout.specs.Unspanned.{nowhere, unspanned_expression}
use Rattle.td_print_layout.proofs.Tokens.{kinds_append, split_kinds, first_kind}
use Rattle.td_print_layout.proofs.Back.{Back, under, blank, both, made, left, right, some}
use Rattle.td_print_layout.proofs.Words.{terminal_back, qualified_back, named_back, literal_back, number_back, word_back}
use Rattle.td_print_layout.proofs.Levels.{at, climb_to, left_small, right_small, tree_small}
use Rattle.td_print_layout.proofs.Joins.{join, un_join}

-- what reads back as a tree
abbrev pub Same : Tree → Tree → Type 0
Same tree read = unspanned_expression read ≡ unspanned_expression tree

unspanned_spanned : (s : Span) (t : Tree) → unspanned_expression (spanned s t) ≡ unspanned_expression t
unspanned_spanned s (Number q n b) = refl
unspanned_spanned s (Truth q b) = refl
unspanned_spanned s (Name q n) = refl
unspanned_spanned s (FieldPos q p) = refl
unspanned_spanned s (Sizeof q w o p) = refl
unspanned_spanned s (RangeOkay q a b c) = refl
unspanned_spanned s (Unary q o p a) = refl
unspanned_spanned s (Binary q o p a b) = refl
unspanned_spanned s (Choice q p a b c) = refl

-- ---- places

-- at a looser level
looser : {u : List Piece} (k m : ℕ) → k ≤ m → (tree : Tree) → Back (at k) u (Same tree) → Back (at m) u (Same tree)
looser k m le tree p = under (climb_to k m le) p

-- a tree in parentheses
grouped : {u : List Piece} (tree : Tree) → Back SpellsExpr u (Same tree) → Back (at 0) (Word kinds.OpenParen ∷ (u ++ Word kinds.CloseParen ∷ [])) (Same tree)
grouped tree p =
    right (right (right (right (right (left (made (both (terminal_back kinds.OpenParen refl) (both p (terminal_back kinds.CloseParen refl)))
    (λ (opening, (inner, closing)) g. unspanned_spanned (over opening closing) inner ∙ g.1.0)))))))

-- where a level is wanted
placed : (loosest : ℕ) → loosest ≤ 12 → (tree : Tree) (u : List Piece) → Back (at (tree_level tree)) u (Same tree) → Back (at loosest) (fitted loosest tree u) (Same tree)
placed loosest small tree u p = by_test (nat_le (tree_level tree) loosest) refl
  where
    by_test : (b : Bool) → leb (tree_level tree) loosest ≡ b → Back (at loosest) (in_group b u) (Same tree)
    by_test true f = looser (tree_level tree) loosest (leb-true (tree_level tree) loosest f) tree p
    by_test false f = looser 0 loosest (omega arith) tree (grouped tree (looser (tree_level tree) 12 (tree_small tree) tree p))

-- as a whole
whole : (tree : Tree) {u : List Piece} → Back (at (tree_level tree)) u (Same tree) → Back SpellsExpr u (Same tree)
whole tree p = looser (tree_level tree) 12 (tree_small tree) tree p

-- ---- operators

unary_back : {u : List Piece} (s : Span) (o : _) (q : Span) (a : Tree) → Back (at 1) u (Same a) → Back (at 1) (Word (unary_kind o) ∷ u) (Same (Unary s o q a))
unary_back {u} s o q a p = record {
  read = λ tokens e.
      let t = first_kind tokens (unary_kind o) (kinds_of u) e in
      let r = p.read t.1 t.4 in
      let tree = Unary (over t.0.span (span_of r.0)) o t.0.span r.0 in
      (tree, subst (λ (l : List Token). at 1 tree l) (sym t.2) (un_join o r.0 t.1 t.0 t.3 r.1), cc (r.2));
}

binary_back : {u v : List Piece} (s : Span) (o : _) (q : Span) (a b : Tree) → Back (at (left_of o)) u (Same a) → Back (at (right_of o)) v (Same b)
    → Back (at (level_of o)) (u ++ Blank ∷ Word (binary_kind o) ∷ Blank ∷ v) (Same (Binary s o q a b))
binary_back {u} {v} s o q a b p r = record {
  read = λ tokens e.
      let x = split_kinds tokens (kinds_of u) (binary_kind o ∷ kinds_of v) (e ∙ kinds_append u (Blank ∷ Word (binary_kind o) ∷ Blank ∷ v)) in
      let t = first_kind x.1 (binary_kind o) (kinds_of v) x.4 in
      let i = p.read x.0 x.3 in
      let j = r.read t.1 t.4 in
      let all : tokens ≡ x.0 ++ t.0 ∷ t.1 = x.2 ∙ ap (λ (l : List Token). x.0 ++ l) t.2 in
      let tree = binary (o, t.0.span) i.0 j.0 in
      (tree, subst (λ (l : List Token). at (level_of o) tree l) (sym all) (join o i.0 j.0 x.0 t.1 t.0 t.3 i.1 j.1), cc (i.2, j.2));
}

-- ---- what stands alone

truth_same : (s q : Span) (a b : Bool) → a ≡ b → Same (Truth s b) (Truth q a)
truth_same s q a b e = ap (λ (c : Bool). unspanned_expression (Truth s c)) e

truth_back : (s : Span) (b : Bool) → Back (at 0) (Word (truth_kind b) ∷ []) (Same (Truth s b))
truth_back s true = right (right (left (made (word_back truth_kinds truth_of kinds.True true refl) (λ x g. truth_same s x.1 x.0 true g))))
truth_back s false = right (right (left (made (word_back truth_kinds truth_of kinds.False false refl) (λ x g. truth_same s x.1 x.0 false g))))

operand_back : (o : SizeofOperand) → Back sizeof_operand.Spells (operand_pieces o) (λ x. x.0 ≡ o)
operand_back (operands.Number n) = left (made (number_back (record { number = n; span = nowhere })) (λ r g. ap (λ (x : NumberTree). operands.Number x.number) g))
operand_back (operands.Name l) = right (left (made (qualified_back l) (λ r g. ap (λ (t : List ℕ). operands.Name t) g)))
operand_back operands.This = right (right (made (terminal_back kinds.This refl) (λ r g. refl)))

-- ---- a tree's own pieces

-- the second and the third operand of `? :`
abbrev Branched : Tree → Tree → Option (Span × Tree × Tree) → Type 0
Branched b c None = ⊥
Branched b c (Some x) = Same b x.1 × Same c x.2

chosen_same : (s q : Span) (a b c x : Tree) (o : Option (Span × Tree × Tree)) → Same a x → Branched b c o → Same (Choice s q a b c) (chosen x o)
chosen_same s q a b c x None p h = absurd h
chosen_same s q a b c x (Some y) p h = cc (p, h.0, h.1)

level_back : (tree : Tree) → Back (at (tree_level tree)) (expression_pieces tree) (Same tree)
level_back (Number s n b) = left (made (literal_back (record { value = n; base = b; span = s })) (λ r g. ap (λ (x : Literal). Number nowhere x.value x.base) g))
level_back (Truth s b) = truth_back s b
level_back (Name s n) = right (left (made (named_back n) (λ r g. ap (λ (x : names.Name). Name nowhere x) g)))
level_back (FieldPos s p) = right (right (right (left (made (terminal_back kinds.FieldPos refl) (λ r g. refl)))))
level_back (Sizeof s w o p) =
    right (right (right (right (left (made
    (both (terminal_back kinds.Sizeof refl) (both (terminal_back kinds.OpenParen refl) (both (operand_back o) (terminal_back kinds.CloseParen refl))))
    (λ x g. cc (g.1.1.0)))))))
level_back (RangeOkay s a b c) =
    right (right (right (right (right (right (made
    (both (terminal_back kinds.IsRangeOkay refl) (made {H = λ x. Same a x.0 × Same b x.1 × Same c x.2}
    (both (terminal_back kinds.OpenParen refl) (both (whole a (level_back a)) (both (terminal_back kinds.Comma refl) (both (blank (whole b (level_back b)))
    (both (terminal_back kinds.Comma refl) (both (blank (whole c (level_back c))) (terminal_back kinds.CloseParen refl)))))))
    (λ x g. (g.1.0, g.1.1.1.0, g.1.1.1.1.1.0))))
    (λ x g. cc (g.1.0, g.1.1, g.1.2))))))))
level_back (Unary s o q a) = unary_back s o q a (placed 1 (omega arith) a (expression_pieces a) (level_back a))
level_back (Binary s o q a b) =
    binary_back s o q a b (placed (left_of o) (left_small o) a (expression_pieces a) (level_back a)) (placed (right_of o) (right_small o) b (expression_pieces b) (level_back b))
level_back (Choice s q a b c) =
    under (nested_in expr_body steady_expr) (made
    (both (placed 11 (omega arith) a (expression_pieces a) (level_back a))
    (blank (some {H = Branched b c} (made {H = λ x. Same b x.1 × Same c x.2}
    (both (terminal_back kinds.Question refl) (both (blank (whole b (level_back b))) (both (blank (terminal_back kinds.Colon refl)) (blank (whole c (level_back c))))))
    (λ x g. (g.1.0, g.1.1.1)))
    (λ x g. g))))
    (λ x g. chosen_same s q a b c x.0 x.1 g.0 g.1))

-- an expression reads back
pub expression_back : (tree : Tree) → Back expr.Spells (expression_pieces tree) (Same tree)
unfolding expr
expression_back tree = whole tree (level_back tree)
