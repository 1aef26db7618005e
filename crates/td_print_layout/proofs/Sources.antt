-- What spells an expression has at least as many operators and parentheses as its canonical form.
use Rattle.std.proofs.Common.{◌≡◌, ℕ, zero, suc, ◌+◌, ◌≤◌, ltb, Bool, true, false, List, [], ◌∷◌, ◌++◌, Option, Some, None, refl, sym, ap, subst, ◌∙◌, append_assoc, inl, inr, arith}
use Rattle.std.proofs.lemmas.Bool.{ltb-true, ltb-false}
use Rattle.td_ast.specs.declared.token.Token.{Token}
use Rattle.td_ast.specs.declared.token.Span.{Span}
use Rattle.td_ast.specs.declared.token.TokenKind.TheVariants as kinds
use Rattle.td_ast.specs.declared.expressions.UnaryOperator.{UnaryOperator}
use Rattle.td_ast.specs.Trees.{Tree, over, span_of}
use Rattle.td_grammar.specs.Spelling.{SpellsAll, NestedBelow}
use Rattle.td_grammar.specs.Limits.{count}
use Rattle.td_grammar.specs.Scan.{counted}
use Rattle.td_grammar.specs.Grammar.{Grammar, spelled_by, maybe}
use Rattle.td_grammar.specs.Operators.{unary_operator, product_operator, sum_operator, shift_operator, order_operator, equality_operator, bit_and_operator, bit_xor_operator, bit_or_operator, and_operator, or_operator}
use Rattle.td_grammar.specs.Expressions.{SpellsExpr, expr_body, group_of, triple_of, branches_of, branched, prim_from, un_from, products, sums, shifts, orders, equalities, bit_ands, bit_xors, bit_ors, ands, ors, applied, chosen, expr}
use Rattle.td_grammar.specs.declared.limits.TheConstants.{OPERATORS}
use Rattle.td_grammar.proofs.Over.{count-append, nth_counted}
use Rattle.td_print_layout.proofs.Light.{IsLight}
use Rattle.td_print_layout.proofs.Levels.{tree_small}
use Rattle.td_print_layout.proofs.Ranks.{product_is, sum_is, shift_is, order_is, equality_is, bit_and_is, bit_xor_is, bit_or_is, and_is, or_is, unary_counts}
use Rattle.td_print_layout.proofs.Costs.{own, placed, placed_most, placed_own, placed_looser, unary_cost, choice_cost, range_cost, spanned_own, name_cost, truth_cost, sizeof_cost, Costs, opening_counts, leaning_costs, comparing_costs}

-- by what the expressions in it cost
module _ (P : Tree → List Token → Type 0) (inner : (a : Tree) (tokens : List Token) → P a tokens → own a ≤ count counted tokens) where
  abbrev group : Grammar Tree
  group = group_of (spelled_by P)

  abbrev triple : Grammar (Tree × Tree × Tree × Span)
  triple = triple_of (spelled_by P)

  abbrev un : Grammar Tree
  un = un_from group triple

  group_cost : (a : Tree) (tokens : List Token) → group.Spells a tokens → placed 0 a ≤ count counted tokens
  group_cost a tokens (x, e, (u, v, d, q, (w, z, f, r, t))) =
      let one = opening_counts kinds.OpenParen refl refl x.0 u q in
      let same = spanned_own (over x.0 x.1.1) x.1.0 in
      omega (arith, one, same, placed_most 0 a, ap own e, inner x.1.0 w r, ap (count counted) d, ap (count counted) f, count-append counted u v, count-append counted w z)

  triple_cost : (x : Tree × Tree × Tree × Span) (tokens : List Token) → triple.Spells x tokens → own x.0 + (own x.1 + own x.2) + 1 ≤ count counted tokens
  triple_cost x tokens (y, e, (u, v, d, q, (a, v1, d1, r1, (b, v2, d2, r2, (c, v3, d3, r3, (f, v4, d4, r4, (g, v5, d5, r5, r6))))))) =
      let one = opening_counts kinds.OpenParen refl refl y.0 u q in
      omega (
        arith,
        one,
        ap (λ (z : Tree × Tree × Tree × Span). own z.0) e,
        ap (λ (z : Tree × Tree × Tree × Span). own z.1) e,
        ap (λ (z : Tree × Tree × Tree × Span). own z.2) e,
        inner y.1.0 a r1,
        inner y.1.1.1.0 c r3,
        inner y.1.1.1.1.1.0 g r5,
        ap (count counted) d,
        ap (count counted) d1,
        ap (count counted) d2,
        ap (count counted) d3,
        ap (count counted) d4,
        ap (count counted) d5,
        count-append counted u v,
        count-append counted a v1,
        count-append counted b v2,
        count-append counted c v3,
        count-append counted f v4,
        count-append counted g v5,
      )

  prim_costs : Costs 0 (prim_from group triple).Spells
  prim_costs = record { costs = by_case }
    where
      by_case : (a : Tree) (tokens : List Token) → (prim_from group triple).Spells a tokens → placed 0 a ≤ count counted tokens
      by_case a tokens (inl (n, e, s)) = omega (arith, ap (placed 0) e)
      by_case a tokens (inr (inl (n, e, s))) = omega (arith, ap (placed 0) e, name_cost n.span n)
      by_case a tokens (inr (inr (inl (x, e, s)))) = omega (arith, ap (placed 0) e, truth_cost x.1 x.0)
      by_case a tokens (inr (inr (inr (inl (x, e, s))))) = omega (arith, ap (placed 0) e)
      by_case a tokens (inr (inr (inr (inr (inl (x, e, (u, v, d, q, (w, z, f, r, t)))))))) =
          let one = opening_counts kinds.OpenParen refl refl x.1.0 w r in
          omega (arith, one, ap (placed 0) e, sizeof_cost (over x.0 x.1.1.1) x.0 x.1.1.0.0 x.1.1.0.1, ap (count counted) d, ap (count counted) f, count-append counted u v, count-append counted w z)
      by_case a tokens (inr (inr (inr (inr (inr (inl s)))))) = group_cost a tokens s
      by_case a tokens (inr (inr (inr (inr (inr (inr (x, e, (u, v, d, q, r)))))))) =
          omega (arith, ap (placed 0) e, range_cost (over x.0 x.1.3) x.1.0 x.1.1 x.1.2, triple_cost x.1 v r, ap (count counted) d, count-append counted u v)

  applied_cost : (ops : List (UnaryOperator × Span)) (a : Tree) (u : List Token) (n : ℕ) → SpellsAll unary_operator.Spells ops u → placed 0 a ≤ n → placed 1 (applied ops a) ≤ count counted u + n
  applied_cost [] a u n s le = omega (arith, le, placed_looser 0 1 a (omega arith))
  applied_cost (o ∷ ops) a u n (f, b, e, q, r) le =
      let it = applied ops a in
      omega (arith, unary_cost (over o.1 (span_of it)) o.0 o.1 it, unary_counts o f q, applied_cost ops a b n r le, ap (count counted) e, count-append counted f b)

  un_costs : Costs 1 un.Spells
  un_costs = record {
    costs = λ a tokens (x, e, (u, v, d, q, r)).
        omega (arith, ap (placed 1) e, applied_cost x.0 x.1 u (count counted v) q (prim_costs.costs x.1 v r), ap (count counted) d, count-append counted u v);
  }

  ors_costs : Costs 11 (ors un).Spells
  ors_costs =
      leaning_costs or_operator (ands un) 11 10 (omega arith) (leaning_costs and_operator (bit_ors un) 10 9 (omega arith) (leaning_costs bit_or_operator (bit_xors un) 9 8 (omega arith)
      (leaning_costs bit_xor_operator (bit_ands un) 8 7 (omega arith) (leaning_costs bit_and_operator (equalities un) 7 6 (omega arith)
      (comparing_costs equality_operator (orders un) 6 5 (omega arith) (comparing_costs order_operator (shifts un) 5 4 (omega arith)
      (leaning_costs shift_operator (sums un) 4 3 (omega arith) (leaning_costs sum_operator (products un) 3 2 (omega arith) (leaning_costs product_operator un 2 1 (omega arith) un_costs
      product_is) sum_is) shift_is) order_is) equality_is) bit_and_is) bit_xor_is) bit_or_is) and_is) or_is

  chosen_cost : (c : Tree) (o : Option (Span × Tree × Tree)) (n : ℕ) (v : List Token) → placed 11 c ≤ n → (maybe (branched (branches_of (spelled_by P)))).Spells o v → placed 12 (chosen c o) ≤ n + count counted v
  chosen_cost c None n v le s = omega (arith, le, placed_looser 11 12 c (omega arith))
  chosen_cost c (Some x) n v le (y, e, (u, w, d, q, (b, w1, d1, r1, (f, g, d2, r2, r3)))) =
      let one = opening_counts kinds.Question refl refl y.0 u q in
      omega (
        arith,
        le,
        one,
        choice_cost (over (span_of c) (span_of x.2)) x.0 c x.1 x.2,
        ap (λ (z : Span × Tree × Tree). own z.1) e,
        ap (λ (z : Span × Tree × Tree). own z.2) e,
        inner y.1.0 b r1,
        inner y.1.1.1 g r3,
        ap (count counted) d,
        ap (count counted) d1,
        ap (count counted) d2,
        count-append counted u w,
        count-append counted b w1,
        count-append counted f g,
      )

  body_cost : (a : Tree) (tokens : List Token) → expr_body P a tokens → own a ≤ count counted tokens
  body_cost a tokens (x, e, (u, v, d, q, r)) =
      omega (arith, ap (placed 12) e, placed_own 12 a (tree_small a), chosen_cost x.0 x.1 (count counted u) v (ors_costs.costs x.0 u q) r, ap (count counted) d, count-append counted u v)

nested_cost : (n : ℕ) (a : Tree) (tokens : List Token) → NestedBelow expr_body n a tokens → own a ≤ count counted tokens
unfolding NestedBelow
nested_cost zero a tokens s = absurd s
nested_cost (suc n) a tokens s = body_cost (NestedBelow expr_body n) (nested_cost n) a tokens s

-- an expression costs no more than what spells it
pub expression_cost : (a : Tree) (tokens : List Token) → SpellsExpr a tokens → own a ≤ count counted tokens
expression_cost a tokens (n, s) = nested_cost n a tokens s

-- ---- what is spelled within the limit is light

-- no prefix passes
abbrev pub NoPass : (List Token → Type 0) → List Token → Type 0
NoPass P tokens = (front back : List Token) → tokens ≡ front ++ back → P front → ⊥

pub light : (a : Tree) (tokens : List Token) → expr.Spells a tokens → NoPass expr.Passes tokens → IsLight a
unfolding expr
light a tokens s unpassed = by_test (ltb OPERATORS (count counted tokens)) refl
  where
    by_test : (b : Bool) → ltb OPERATORS (count counted tokens) ≡ b → IsLight a
    by_test false f = omega (arith, ltb-false OPERATORS (count counted tokens) f, expression_cost a tokens s)
    by_test true f =
        let p = nth_counted counted OPERATORS tokens (ltb-true OPERATORS (count counted tokens) f) in
        let whole : tokens ≡ (p.0 ++ p.1 ∷ []) ++ p.2 = p.3 ∙ sym (append_assoc p.0 (p.1 ∷ []) p.2) in
        absurd (unpassed (p.0 ++ p.1 ∷ []) p.2 whole (p.0, p.1, refl, p.4, p.5, (a, p.2, subst (λ (l : List Token). SpellsExpr a l) whole s)))
