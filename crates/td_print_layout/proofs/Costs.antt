-- What an expression's canonical form has of operators and opening parentheses, no spelling of it has fewer of.
use Rattle.std.proofs.Common.{◌≡◌, ℕ, ◌+◌, ◌≤◌, nat_le, leb, Bool, true, false, cond, List, [], ◌∷◌, ◌++◌, Option, Some, None, refl, ap, ◌∙◌, arith}
use Rattle.std.proofs.lemmas.Bool.{leb-true, leb-false, eqb-true}
use Rattle.td_ast.specs.declared.token.Token.{Token}
use Rattle.td_ast.specs.declared.token.Span.{Span}
use Rattle.td_ast.specs.declared.token.TokenKind.{TokenKind}
use Rattle.td_ast.specs.declared.token.TokenKind.TheVariants as kinds
use Rattle.td_ast.specs.declared.expressions.UnaryOperator.{UnaryOperator}
use Rattle.td_ast.specs.declared.expressions.UnaryOperator.TheVariants.{Not, Complement}
use Rattle.td_ast.specs.declared.expressions.BinaryOperator.{BinaryOperator}
use Rattle.td_ast.specs.declared.expressions.BinaryOperator.TheVariants as operators
use Rattle.td_ast.specs.declared.expressions.SizeofOperand.{SizeofOperand}
use Rattle.td_ast.specs.declared.expressions.SizeofOperand.TheVariants as operands
use Rattle.td_ast.specs.declared.names.Name as names
use Rattle.td_ast.specs.Trees.{Tree, Number, Truth, Name, FieldPos, Sizeof, RangeOkay, Unary, Binary, Choice, spanned, over, span_of}
use Rattle.td_ast.specs.Kinds.{number_of_kind, is_kind}
use Rattle.td_grammar.specs.Sets.{member}
use Rattle.td_grammar.specs.Spelling.{SpellsAll}
use Rattle.td_grammar.specs.Limits.{count}
use Rattle.td_grammar.specs.Scan.{counted}
use Rattle.td_grammar.specs.Grammar.{Grammar, ◌then◌, maybe}
use Rattle.td_grammar.specs.Tokens.{terminal}
use Rattle.td_grammar.specs.Expressions.{lean, binary, compared, leaning, comparing}
use Rattle.td_grammar.proofs.Over.{count-append}
use Rattle.td_print_layout.specs.Pieces.{Piece, Word, Blank, kinds_of}
use Rattle.td_print_layout.specs.Operators.{binary_kind, left_of, right_of}
use Rattle.td_print_layout.specs.Sequences.{optional}
use Rattle.td_print_layout.specs.Names.{before_dot, after_dot, dotted_pieces}
use Rattle.td_print_layout.specs.Expressions.{tree_level, in_group, fitted, expression_pieces}
use Rattle.td_print_layout.proofs.Tokens.{kinds_append}
use Rattle.td_print_layout.proofs.Light.{cost_of}
use Rattle.td_print_layout.proofs.Ranks.{Operator}

-- ---- costs of pieces

abbrev cost : List Piece → ℕ
cost pieces = cost_of (kinds_of pieces)

-- of a tree at a place that takes this level
abbrev pub placed : ℕ → Tree → ℕ
placed k a = cost (fitted k a (expression_pieces a))

-- of a tree alone
abbrev pub own : Tree → ℕ
own a = cost (expression_pieces a)

cost_kinds : (u v : List TokenKind) → cost_of (u ++ v) ≡ cost_of u + cost_of v
cost_kinds [] v = omega arith
cost_kinds (k ∷ u) v = by_test (member counted (number_of_kind k)) (cost_kinds u v)
  where
    by_test : (b : Bool) → cost_of (u ++ v) ≡ cost_of u + cost_of v → cond b (cost_of (u ++ v) + 1) (cost_of (u ++ v)) ≡ cond b (cost_of u + 1) (cost_of u) + cost_of v
    by_test true e = rw e (omega arith)
    by_test false e = e

cost_append : (u v : List Piece) → cost (u ++ v) ≡ cost u + cost v
cost_append u v = ap cost_of (kinds_append u v) ∙ cost_kinds (kinds_of u) (kinds_of v)

group_cost : (b : Bool) (u : List Piece) → (cost u ≤ cost (in_group b u)) × (cost (in_group b u) ≤ cost u + 1)
group_cost true u = (omega arith, omega arith)
group_cost false u = let e = cost_append u (Word kinds.CloseParen ∷ []) in (omega (arith, e), omega (arith, e))

pub placed_most : (k : ℕ) (a : Tree) → placed k a ≤ own a + 1
placed_most k a = (group_cost (nat_le (tree_level a) k) (expression_pieces a)).1

pub placed_own : (k : ℕ) (a : Tree) → tree_level a ≤ k → placed k a ≡ own a
placed_own k a le = by_test (leb (tree_level a) k) refl
  where
    by_test : (b : Bool) → leb (tree_level a) k ≡ b → cost (in_group b (expression_pieces a)) ≡ own a
    by_test true f = refl
    by_test false f = absurd (omega (arith, le, leb-false (tree_level a) k f))

-- a looser place costs no more
pub placed_looser : (k m : ℕ) (a : Tree) → k ≤ m → placed m a ≤ placed k a
placed_looser k m a le = by_test (leb (tree_level a) k) refl
  where
    by_test : (b : Bool) → leb (tree_level a) k ≡ b → placed m a ≤ cost (in_group b (expression_pieces a))
    by_test true f = omega (arith, placed_own m a (omega (arith, le, leb-true (tree_level a) k f)))
    by_test false f = omega (arith, placed_most m a, cost_append (expression_pieces a) (Word kinds.CloseParen ∷ []))

-- ---- costs of trees

pub unary_cost : (s : Span) (o : UnaryOperator) (p : Span) (a : Tree) → own (Unary s o p a) ≡ placed 1 a + 1
unary_cost s Not p a = refl
unary_cost s Complement p a = refl

binary_counted : (o : BinaryOperator) → member counted (number_of_kind (binary_kind o)) ≡ true
binary_counted operators.Multiply = refl
binary_counted _ = refl

binary_cost : (s : Span) (o : BinaryOperator) (p : Span) (a b : Tree) → own (Binary s o p a b) ≡ placed (left_of o) a + (placed (right_of o) b + 1)
binary_cost s o p a b =
    let parts = cost_append (fitted (left_of o) a (expression_pieces a)) (Blank ∷ Word (binary_kind o) ∷ Blank ∷ fitted (right_of o) b (expression_pieces b)) in
    let is = binary_counted o in
    let after : cost (Blank ∷ Word (binary_kind o) ∷ Blank ∷ fitted (right_of o) b (expression_pieces b)) ≡ placed (right_of o) b + 1 = rw is refl in
    omega (arith, parts, after)

pub choice_cost : (s p : Span) (a b c : Tree) → own (Choice s p a b c) ≡ placed 11 a + (own b + own c + 1)
choice_cost s p a b c =
    let one = cost_append (fitted 11 a (expression_pieces a)) (Blank ∷ Word kinds.Question ∷ Blank ∷ (expression_pieces b ++ Blank ∷ Word kinds.Colon ∷ Blank ∷ expression_pieces c)) in
    let two = cost_append (expression_pieces b) (Blank ∷ Word kinds.Colon ∷ Blank ∷ expression_pieces c) in
    omega (arith, one, two)

pub range_cost : (s : Span) (a b c : Tree) → own (RangeOkay s a b c) ≡ own a + (own b + own c) + 1
range_cost s a b c =
    let one = cost_append (expression_pieces a) (Word kinds.Comma ∷ Blank ∷ (expression_pieces b ++ Word kinds.Comma ∷ Blank ∷ (expression_pieces c ++ Word kinds.CloseParen ∷ []))) in
    let two = cost_append (expression_pieces b) (Word kinds.Comma ∷ Blank ∷ (expression_pieces c ++ Word kinds.CloseParen ∷ [])) in
    let three = cost_append (expression_pieces c) (Word kinds.CloseParen ∷ []) in
    omega (arith, one, two, three)

pub spanned_own : (s : Span) (t : Tree) → own (spanned s t) ≡ own t
spanned_own s (Number q n b) = refl
spanned_own s (Truth q b) = refl
spanned_own s (Name q n) = refl
spanned_own s (FieldPos q p) = refl
spanned_own s (Sizeof q w o p) = refl
spanned_own s (RangeOkay q a b c) = refl
spanned_own s (Unary q o p a) = refl
spanned_own s (Binary q o p a b) = refl
spanned_own s (Choice q p a b c) = refl

name_by : (first : List ℕ) (o : Option (List ℕ)) → cost (Word (kinds.Name first) ∷ optional dotted_pieces o) ≡ 0
name_by first None = refl
name_by first (Some second) = refl

pub name_cost : (s : Span) (n : names.Name) → placed 0 (Name s n) ≡ 0
name_cost s n = name_by (before_dot n.text) (after_dot n.text)

pub truth_cost : (s : Span) (b : Bool) → placed 0 (Truth s b) ≡ 0
truth_cost s true = refl
truth_cost s false = refl

operand_by : (first : List ℕ) (o : Option (List ℕ)) → cost (Word kinds.OpenParen ∷ ((Word (kinds.Name first) ∷ optional dotted_pieces o) ++ Word kinds.CloseParen ∷ [])) ≡ 1
operand_by first None = refl
operand_by first (Some second) = refl

pub sizeof_cost : (s w : Span) (o : SizeofOperand) (p : Span) → placed 0 (Sizeof s w o p) ≡ 1
sizeof_cost s w (operands.Number n) p = refl
sizeof_cost s w (operands.Name l) p = operand_by (before_dot l) (after_dot l)
sizeof_cost s w operands.This p = refl

-- ---- costs of spellings

-- what is spelled costs at least as much as is laid out for a place
pub record Costs (k : ℕ) (P : Tree → List Token → Type 0) : Type 0 where
  pub costs : (a : Tree) (tokens : List Token) → P a tokens → placed k a ≤ count counted tokens

pub looser : {k : ℕ} {P : Tree → List Token → Type 0} (m : ℕ) → k ≤ m → Costs k P → Costs m P
looser {k} m le p = record { costs = λ a tokens s. omega (arith, placed_looser k m a le, p.costs a tokens s) }

-- a counted terminal
pub opening_counts : (k : TokenKind) → is_kind k k ≡ true → member counted (number_of_kind k) ≡ true → (s : Span) (tokens : List Token) → (terminal k).Spells s tokens → 1 ≤ count counted tokens
opening_counts k is c s tokens (t, e, f) = by_test (is_kind t.kind k) refl f
  where
    by_test : (b : Bool) → is_kind t.kind k ≡ b → cond b (Some t.span) None ≡ Some s → 1 ≤ count counted tokens
    by_test true g f =
        let same : number_of_kind t.kind ≡ number_of_kind k = eqb-true (number_of_kind t.kind) (number_of_kind k) g in
        let m : member counted (number_of_kind t.kind) ≡ true = ap (member counted) same ∙ c in
        rw (e, m) (omega arith)
    by_test false g f = absurd cc

module _ (operator : Grammar (BinaryOperator × Span)) (g : Grammar Tree) (level right : ℕ) (below : right ≤ level) (p : Costs right g.Spells) where
  lean_cost : Operator operator level level right → (left : Tree) (others : List ((BinaryOperator × Span) × Tree)) (n : ℕ) (v : List Token) → placed level left ≤ n → SpellsAll (operator then g).Spells others v → placed level (lean left others) ≤ n + count counted v
  lean_cost O left [] n v le s = omega (arith, le)
  lean_cost O left (x ∷ xs) n v le (f, b, e, (o, w, d, q, r), rest) =
      let is = O.level x.0 o q in
      let one = O.counts x.0 o q in
      let it = binary x.0 left x.1 in
      let cost_it = binary_cost (over (span_of left) (span_of x.1)) x.0.0 x.0.1 left x.1 in
      let fits : placed level it ≡ own it = placed_own level it (omega (arith, is.0)) in
      let left_same : placed (left_of x.0.0) left ≡ placed level left = ap (λ (k : ℕ). placed k left) is.1 in
      let right_same : placed (right_of x.0.0) x.1 ≡ placed right x.1 = ap (λ (k : ℕ). placed k x.1) is.2 in
      let bound : placed level it ≤ n + count counted f =
      omega (arith, fits, cost_it, left_same, right_same, le, one, p.costs x.1 w r, ap (count counted) d, count-append counted o w) in
      let all = lean_cost O it xs (n + count counted f) b bound rest in
      omega (arith, all, ap (count counted) e, count-append counted f b)

  pub leaning_costs : Operator operator level level right → Costs level (leaning operator g).Spells
  leaning_costs O = record { costs = by_parts }
    where
      by_parts : (a : Tree) (tokens : List Token) → (leaning operator g).Spells a tokens → placed level a ≤ count counted tokens
      by_parts a tokens (x, e, (u, v, d, q, r)) =
          let first : placed level x.0 ≤ count counted u = omega (arith, placed_looser right level x.0 below, p.costs x.0 u q) in
          let all = lean_cost O x.0 x.1 (count counted u) v first r in
          omega (arith, all, ap (placed level) e, ap (count counted) d, count-append counted u v)

  compared_cost : Operator operator level right right → (left : Tree) (o : Option ((BinaryOperator × Span) × Tree)) (n : ℕ) (v : List Token) → placed right left ≤ n → (maybe (operator then g)).Spells o v → placed level (compared left o) ≤ n + count counted v
  compared_cost O left None n v le s = omega (arith, le, placed_looser right level left below)
  compared_cost O left (Some x) n v le (o, w, d, q, r) =
      let is = O.level x.0 o q in
      let one = O.counts x.0 o q in
      let it = binary x.0 left x.1 in
      let cost_it = binary_cost (over (span_of left) (span_of x.1)) x.0.0 x.0.1 left x.1 in
      let fits : placed level it ≡ own it = placed_own level it (omega (arith, is.0)) in
      let left_same : placed (left_of x.0.0) left ≡ placed right left = ap (λ (k : ℕ). placed k left) is.1 in
      let right_same : placed (right_of x.0.0) x.1 ≡ placed right x.1 = ap (λ (k : ℕ). placed k x.1) is.2 in
      omega (arith, fits, cost_it, left_same, right_same, le, one, p.costs x.1 w r, ap (count counted) d, count-append counted o w)

  pub comparing_costs : Operator operator level right right → Costs level (comparing operator g).Spells
  comparing_costs O = record { costs = by_parts }
    where
      by_parts : (a : Tree) (tokens : List Token) → (comparing operator g).Spells a tokens → placed level a ≤ count counted tokens
      by_parts a tokens (x, e, (u, v, d, q, r)) =
          let all = compared_cost O x.0 x.1 (count counted u) v (p.costs x.0 u q) r in
          omega (arith, all, ap (placed level) e, ap (count counted) d, count-append counted u v)
