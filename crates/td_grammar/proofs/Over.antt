-- What passes a depth of n within an expression has more than n counted tokens before it, itself among them. Cited by other crates.
use Rattle.std.proofs.Common.{◌≡◌, ℕ, zero, suc, ◌+◌, ◌≤◌, ◌<◌, Bool, true, false, cond, List, [], ◌∷◌, ◌++◌, refl, inl, inr, arith, ap}
use Rattle.td_ast.specs.declared.token.Token.{Token}
use Rattle.td_ast.specs.declared.token.Span.{Span}
use Rattle.td_ast.specs.declared.token.TokenKind.TheVariants as kinds
use Rattle.td_ast.specs.declared.token.TokenKind.{TokenKind}
use Rattle.td_ast.specs.declared.expressions.BinaryOperator.{BinaryOperator}
use Rattle.td_ast.specs.Trees.{Tree}
use Rattle.td_ast.specs.Kinds.{number_of_kind}
use Rattle.td_grammar.specs.Sets.{member, only}
use Rattle.td_grammar.specs.Limits.{count, PassesNever, PassesBoth, PassesAll, PassesEither, PassesFirst}
use Rattle.td_grammar.specs.Scan.{counted}
use Rattle.td_grammar.specs.Grammar.{Grammar, spelled_by, too_deep}
use Rattle.td_grammar.specs.Tokens.{terminal, qualified}
use Rattle.td_grammar.specs.Expressions.{products, sums, shifts, orders, equalities, bit_ands, bit_xors, bit_ors, ands, group_of, triple_of, branches_of, SpellsExpr, leaning, comparing, prim_from, un_from, expr_from, expr_within, nested_expr}
use Rattle.td_grammar.specs.Operators.{product_operator, sum_operator, shift_operator, order_operator, equality_operator, bit_and_operator, bit_xor_operator, bit_or_operator, and_operator, or_operator}
use Rattle.td_grammar.proofs.Sets.{covered}
use Rattle.td_grammar.proofs.Seen.{covers}
use Rattle.td_grammar.proofs.Words.{terminal_known}

pub count-append : (kinds : List ℕ) (u v : List Token) → count kinds (u ++ v) ≡ count kinds u + count kinds v
count-append kinds [] v = omega arith
count-append kinds (t ∷ u) v = by_test (member kinds (number_of_kind t.kind)) (count-append kinds u v)
  where
    by_test : (b : Bool) → count kinds (u ++ v) ≡ count kinds u + count kinds v → cond b (count kinds (u ++ v) + 1) (count kinds (u ++ v)) ≡ cond b (count kinds u + 1) (count kinds u) + count kinds v
    by_test true e = rw e (omega arith)
    by_test false e = e

-- the one before which n stand
pub nth_counted : (kinds : List ℕ) (n : ℕ) (tokens : List Token) → n < count kinds tokens → (front : List Token) × (t : Token) × (more : List Token) × (tokens ≡ front ++ t ∷ more) × (member kinds (number_of_kind t.kind) ≡ true) × (count kinds front ≡ n)
nth_counted kinds n [] lt = absurd (omega (arith, lt))
nth_counted kinds n (t ∷ tokens) lt = by_test (member kinds (number_of_kind t.kind)) refl n lt (λ m. nth_counted kinds m tokens)
  where
    by_test : (b : Bool) → member kinds (number_of_kind t.kind) ≡ b → (n : ℕ) → n < cond b (count kinds tokens + 1) (count kinds tokens)
        → ((m : ℕ) → m < count kinds tokens → (front : List Token) × (s : Token) × (more : List Token) × (tokens ≡ front ++ s ∷ more) × (member kinds (number_of_kind s.kind) ≡ true) × (count kinds front ≡ m))
        → (front : List Token) × (s : Token) × (more : List Token) × (t ∷ tokens ≡ front ++ s ∷ more) × (member kinds (number_of_kind s.kind) ≡ true) × (count kinds front ≡ n)
    by_test false e n lt ih = let p = ih n lt in (t ∷ p.0, p.1, p.2, ap (λ (l : List Token). t ∷ l) p.3, p.4, rw e p.5)
    by_test true e zero lt ih = ([], t, tokens, refl, e, refl)
    by_test true e (suc n) lt ih = let p = ih n (omega arith) in (t ∷ p.0, p.1, p.2, ap (λ (l : List Token). t ∷ l) p.3, p.4, rw e (omega (arith, p.5)))

pub record IsOver (n : ℕ) (P : List Token → Type 0) : Type 0 where
  pub over : (tokens : List Token) → P tokens → n < count counted tokens

pub over_never : {n : ℕ} → IsOver n PassesNever
over_never = record { over = λ tokens p. absurd p }

pub over_both : {A : Type 0} {n : ℕ} {P Q : List Token → Type 0} (S : A → List Token → Type 0) → IsOver n P → IsOver n Q → IsOver n (PassesBoth S P Q)
over_both {n = n} {P = P} {Q = Q} S p q = record { over = by_side }
  where
    by_side : (tokens : List Token) → PassesBoth S P Q tokens → n < count counted tokens
    by_side tokens (inl s) = p.over tokens s
    by_side tokens (inr s) = rw (s.3, count-append counted s.1 s.2) (omega (arith, q.over s.2 s.5))

-- after a counted token there is one more
pub over_after : {n : ℕ} {Q : List Token → Type 0} (k : TokenKind) → covered (number_of_kind k ∷ []) counted ≡ true → IsOver n Q → IsOver (suc n) (PassesBoth (terminal k).Spells PassesNever Q)
over_after {n = n} {Q = Q} k c q = record { over = by_side }
  where
    first : (s : Span) (u : List Token) → (terminal k).Spells s u → 1 ≤ count counted u
    first s u (t, e, f) =
        let m : member counted (number_of_kind t.kind) ≡ true = covers (number_of_kind k ∷ []) counted (number_of_kind t.kind) c (terminal_known k t s f) in
        rw (e, m) (omega arith)

    by_side : (tokens : List Token) → PassesBoth (terminal k).Spells PassesNever Q tokens → suc n < count counted tokens
    by_side tokens (inl p) = absurd p
    by_side tokens (inr s) = rw (s.3, count-append counted s.1 s.2) (omega (arith, q.over s.2 s.5, first s.0 s.1 s.4))

pub over_all : {A : Type 0} {n : ℕ} {P : List Token → Type 0} (S : A → List Token → Type 0) → IsOver n P → IsOver n (PassesAll S P)
over_all {n = n} {P = P} S p = record { over = λ tokens s. by_parts tokens s }
  where
    by_parts : (tokens : List Token) → PassesAll S P tokens → n < count counted tokens
    by_parts tokens (xs, u, v, e, s, q) = rw (e, count-append counted u v) (omega (arith, p.over v q))

pub over_either : {n : ℕ} {P Q : List Token → Type 0} → IsOver n P → IsOver n Q → IsOver n (PassesEither P Q)
over_either {n = n} {P = P} {Q = Q} p q = record { over = by_side }
  where
    by_side : (tokens : List Token) → PassesEither P Q tokens → n < count counted tokens
    by_side tokens (inl s) = p.over tokens s
    by_side tokens (inr s) = q.over tokens s

pub over_first : (set : List ℕ) → covered set counted ≡ true → IsOver zero (PassesFirst set)
over_first set c = record { over = λ tokens (t, e, m). let is : member counted (number_of_kind t.kind) ≡ true = covers set counted (number_of_kind t.kind) c m in rw (e, is) (omega arith) }

module _ {n : ℕ} where
  over_qualified : IsOver n qualified.Passes
  over_qualified = over_both _ over_never (over_both _ over_never over_never)

  over_leaning : (operator : Grammar (BinaryOperator × Span)) (g : Grammar Tree) → IsOver n operator.Passes → IsOver n g.Passes → IsOver n (leaning operator g).Passes
  over_leaning operator g o p = over_both _ p (over_all _ (over_both _ o p))

  over_comparing : (operator : Grammar (BinaryOperator × Span)) (g : Grammar Tree) → IsOver n operator.Passes → IsOver n g.Passes → IsOver n (comparing operator g).Passes
  over_comparing operator g o p = over_both _ p (over_both _ o p)

  over_prim : (group : Grammar Tree) (triple : Grammar (Tree × Tree × Tree × Span)) → IsOver n group.Passes → IsOver n triple.Passes → IsOver n (prim_from group triple).Passes
  over_prim group triple G T =
      over_either over_never (over_either over_qualified (over_either over_never (over_either over_never
      (over_either (over_both _ over_never (over_both _ over_never (over_both _ (over_either over_never (over_either over_qualified over_never)) over_never)))
      (over_either G (over_both _ over_never T))))))

  pub over_expr_from : (group : Grammar Tree) (triple : Grammar (Tree × Tree × Tree × Span)) (branches : Grammar (Span × Tree × Tree)) → IsOver n group.Passes → IsOver n triple.Passes → IsOver n branches.Passes → IsOver n (expr_from group triple branches).Passes
  over_expr_from group triple branches G T B =
      let un : Grammar Tree = un_from group triple in
      let U : IsOver n un.Passes = over_both _ (over_all _ over_never) (over_prim group triple G T) in
      over_both _
      (over_leaning or_operator (ands un) over_never (over_leaning and_operator (bit_ors un) over_never (over_leaning bit_or_operator (bit_xors un) over_never
      (over_leaning bit_xor_operator (bit_ands un) over_never (over_leaning bit_and_operator (equalities un) over_never (over_comparing equality_operator (orders un) over_never
      (over_comparing order_operator (shifts un) over_never (over_leaning shift_operator (sums un) over_never (over_leaning sum_operator (products un) over_never
      (over_leaning product_operator un over_never U))))))))))
      B

pub over_nested : (n : ℕ) → IsOver n (nested_expr n).Passes
unfolding expr_within
over_nested zero = over_expr_from (too_deep (group_of (spelled_by SpellsExpr)).Spells (only kinds.OpenParen)) (too_deep (triple_of (spelled_by SpellsExpr)).Spells (only kinds.OpenParen)) (too_deep (branches_of (spelled_by SpellsExpr)).Spells (only kinds.Question))
    (over_first (only kinds.OpenParen) refl) (over_first (only kinds.OpenParen) refl) (over_first (only kinds.Question) refl)
over_nested (suc n) =
    let inner = over_nested n in
    over_expr_from (group_of (nested_expr n)) (triple_of (nested_expr n)) (branches_of (nested_expr n))
    (over_after kinds.OpenParen refl (over_both _ inner over_never))
    (over_after kinds.OpenParen refl (over_both _ inner (over_both _ over_never (over_both _ inner (over_both _ over_never (over_both _ inner over_never))))))
    (over_after kinds.Question refl (over_both _ inner (over_both _ over_never inner)))
