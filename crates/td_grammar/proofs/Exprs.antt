-- Expressions nested to some depth are exact. Cited by other crates.
use Rattle.std.proofs.Common.{◌≡◌, ℕ, zero, suc, Bool, true, false, cond, eqb, eq-eqb, List, [], ◌∷◌, ◌++◌, None, refl, sym, inl, inr}
use Rattle.std.proofs.lemmas.Bool.{eqb-true}
use Rattle.std.proofs.lemmas.List.{append-nil}
use Rattle.td_ast.specs.declared.token.Token.{Token}
use Rattle.td_ast.specs.declared.token.Span.{Span}
use Rattle.td_ast.specs.declared.token.TokenKind.{TokenKind}
use Rattle.td_ast.specs.declared.token.TokenKind.TheVariants as kinds
use Rattle.td_ast.specs.declared.expressions.BinaryOperator.{BinaryOperator}
use Rattle.td_ast.specs.Trees.{Tree}
use Rattle.td_ast.specs.Trees as trees
use Rattle.td_ast.specs.Kinds.{number_of_kind, is_kind}
use Rattle.td_grammar.specs.Sets.{member, only}
use Rattle.td_grammar.specs.Spelling.{Begins, SpellsBoth, SpellsMade}
use Rattle.td_grammar.specs.Grammar.{Grammar, ◌then◌, spelled_by, too_deep, seen_as}
use Rattle.td_grammar.specs.Tokens.{terminal}
use Rattle.td_grammar.specs.Expressions.{leaning, comparing, products, sums, shifts, orders, equalities, bit_ands, bit_xors, bit_ors, ands, ors, prim_from, un_from, opened, group_of, triple_of, branches_of, expr_body, SpellsExpr, expr_within, nested_expr}
use Rattle.td_grammar.specs.Operators.{product_operator, sum_operator, shift_operator, order_operator, equality_operator, bit_and_operator, bit_xor_operator, bit_or_operator, and_operator, or_operator}
use Rattle.td_grammar.specs.Ahead.{begins, choices_go_on}
use Rattle.td_grammar.proofs.Exact.{IsExact}
use Rattle.td_grammar.proofs.Making.{making_exact}
use Rattle.td_grammar.proofs.Seen.{seen_exact}
use Rattle.td_grammar.proofs.Nested.{too_deep_exact}
use Rattle.td_grammar.proofs.Steady.{Relation, IsSteady, steady_self, steady_other, steady_both, steady_made, steady_maybe, steady_all, steady_either, nested_in, nested_out}
use Rattle.td_grammar.proofs.Words.{nowhere, terminal_exact, sequel}
use Rattle.td_grammar.proofs.Levels.{expr_from_exact}

-- ---- what an expression says of itself is steady

steady_leaning : {F : Relation Tree → Relation Tree} (operator : Grammar (BinaryOperator × Span)) → IsSteady F → IsSteady (λ P. (leaning operator (spelled_by (F P))).Spells)
steady_leaning operator f = steady_made _ (steady_both f (steady_all (steady_both (steady_other operator.Spells) f)))

steady_comparing : {F : Relation Tree → Relation Tree} (operator : Grammar (BinaryOperator × Span)) → IsSteady F → IsSteady (λ P. (comparing operator (spelled_by (F P))).Spells)
steady_comparing operator f = steady_made _ (steady_both f (steady_maybe (steady_both (steady_other operator.Spells) f)))

steady_group : IsSteady (λ P. (group_of (spelled_by P)).Spells)
steady_group = steady_made _ (steady_both (steady_other _) (steady_both steady_self (steady_other _)))

steady_triple : IsSteady (λ P. (triple_of (spelled_by P)).Spells)
steady_triple = steady_made _ (steady_both (steady_other _) (steady_both steady_self (steady_both (steady_other _) (steady_both steady_self (steady_both (steady_other _) (steady_both steady_self (steady_other _)))))))

steady_branches : IsSteady (λ P. (branches_of (spelled_by P)).Spells)
steady_branches = steady_made _ (steady_both (steady_other _) (steady_both steady_self (steady_both (steady_other _) steady_self)))

abbrev un_body : Relation Tree → Relation Tree
un_body P = (un_from (group_of (spelled_by P)) (triple_of (spelled_by P))).Spells

steady_prim : IsSteady (λ P. (prim_from (group_of (spelled_by P)) (triple_of (spelled_by P))).Spells)
steady_prim =
    steady_either (steady_other _) (steady_either (steady_other _) (steady_either (steady_other _) (steady_either (steady_other _) (steady_either (steady_other _)
    (steady_either steady_group (steady_made _ (steady_both (steady_other _) steady_triple)))))))

steady_un : IsSteady un_body
steady_un = steady_made _ (steady_both (steady_other _) steady_prim)

pub steady_expr : IsSteady expr_body
steady_expr =
    steady_made _ (steady_both
    (steady_leaning or_operator (steady_leaning and_operator (steady_leaning bit_or_operator (steady_leaning bit_xor_operator (steady_leaning bit_and_operator
    (steady_comparing equality_operator (steady_comparing order_operator (steady_leaning shift_operator (steady_leaning sum_operator (steady_leaning product_operator steady_un))))))))))
    (steady_maybe steady_branches))

-- ---- a name is one

pub leaning_self : (operator : Grammar (BinaryOperator × Span)) (g : Grammar Tree) (a : Tree) (tokens : List Token) → g.Spells a tokens → (leaning operator g).Spells a tokens
leaning_self operator g a tokens s = ((a, []), refl, (tokens, [], sym (append-nil tokens), s, refl))

pub comparing_self : (operator : Grammar (BinaryOperator × Span)) (g : Grammar Tree) (a : Tree) (tokens : List Token) → g.Spells a tokens → (comparing operator g).Spells a tokens
comparing_self operator g a tokens s = ((a, None), refl, (tokens, [], sym (append-nil tokens), s, refl))

abbrev named : Token
named = record { kind = kinds.Name []; span = nowhere }

abbrev name_tree : Tree
name_tree = trees.Name nowhere (record { text = []; span = nowhere })

module _ (group : Grammar Tree) (triple : Grammar (Tree × Tree × Tree × Span)) where
  abbrev un : Grammar Tree
  un = un_from group triple

  un_named : un.Spells name_tree (named ∷ [])
  un_named = (([], name_tree), refl, ([], named ∷ [], refl, refl, inr (inl (record { text = []; span = nowhere }, refl, ((record { text = []; span = nowhere }, None), refl, (named ∷ [], [], refl, (named, refl, refl), refl))))))

  ors_named : (ors un).Spells name_tree (named ∷ [])
  ors_named =
      let l = named ∷ [] in
      leaning_self or_operator (ands un) name_tree l (leaning_self and_operator (bit_ors un) name_tree l (leaning_self bit_or_operator (bit_xors un) name_tree l
      (leaning_self bit_xor_operator (bit_ands un) name_tree l (leaning_self bit_and_operator (equalities un) name_tree l (comparing_self equality_operator (orders un) name_tree l
      (comparing_self order_operator (shifts un) name_tree l (leaning_self shift_operator (sums un) name_tree l (leaning_self sum_operator (products un) name_tree l
      (leaning_self product_operator un name_tree l un_named)))))))))

pub name_spelled : SpellsExpr name_tree (named ∷ [])
name_spelled = nested_in expr_body steady_expr name_tree (named ∷ []) ((name_tree, None), refl, (named ∷ [], [], refl, ors_named (group_of (spelled_by SpellsExpr)) (triple_of (spelled_by SpellsExpr)), refl))

-- ---- what begins with a terminal

pub terminal_starts : (k : TokenKind) (t : Token) → member (number_of_kind k ∷ []) (number_of_kind t.kind) ≡ true → (terminal k).Spells t.span (t ∷ [])
terminal_starts k t m = by_test (eqb (number_of_kind k) (number_of_kind t.kind)) refl m
  where
    by_test : (b : Bool) → eqb (number_of_kind k) (number_of_kind t.kind) ≡ b → cond b true false ≡ true → (terminal k).Spells t.span (t ∷ [])
    by_test true e m = let is : is_kind t.kind k ≡ true = eq-eqb (number_of_kind t.kind) (number_of_kind k) (sym (eqb-true (number_of_kind k) (number_of_kind t.kind) e)) in (t, refl, rw is refl)
    by_test false e m = absurd cc

module _ {B C : Type 0} (k : TokenKind) (is : is_kind k k ≡ true) (Q : B → List Token → Type 0) (f : Span × B → C) (sample : (b : B) × (tokens : List Token) × Q b tokens) where
  abbrev R : C → List Token → Type 0
  R = SpellsMade f (SpellsBoth (terminal k).Spells Q)

  terminal_begun : (c : C) (t : Token) (more : List Token) → R c (t ∷ more) → member (number_of_kind k ∷ []) (number_of_kind t.kind) ≡ true
  terminal_begun c t more (x, e, s) = by_front s.0 s.1 s.2 s.3
    where
      by_front : (u v : List Token) → t ∷ more ≡ u ++ v → (terminal k).Spells x.0 u → member (number_of_kind k ∷ []) (number_of_kind t.kind) ≡ true
      by_front [] v e p = absurd (cc (p.1))
      by_front (y ∷ u) v e p = let same : t ≡ y = cc in rw same ((terminal_exact k is).begun x.0 y u p)

  terminal_full : (c : C) → R c [] → ⊥
  terminal_full c (x, e, s) = by_front s.0 s.1 s.2 s.3
    where
      by_front : (u v : List Token) → [] ≡ u ++ v → (terminal k).Spells x.0 u → ⊥
      by_front [] v e p = cc (p.1)
      by_front (y ∷ u) v e p = cc e

  terminal_some : (t : Token) → member (number_of_kind k ∷ []) (number_of_kind t.kind) ≡ true → Begins R (t ∷ [])
  terminal_some t m = (f (t.span, sample.0), sample.1, ((t.span, sample.0), refl, (t ∷ [], sample.1, refl, terminal_starts k t m, sample.2)))

  abbrev terminal_of : Token
  terminal_of = record { kind = k; span = nowhere }

  own : member (number_of_kind k ∷ []) (number_of_kind k) ≡ true
  own = let same : eqb (number_of_kind k) (number_of_kind k) ≡ true = is in rw same refl

  pub begun_too_deep : IsExact (too_deep R (number_of_kind k ∷ []))
  begun_too_deep = too_deep_exact R (number_of_kind k ∷ []) terminal_begun terminal_full (let b = terminal_some terminal_of own in (b.0, terminal_of ∷ b.1, b.2)) terminal_some

abbrev closing : Token
closing = record { kind = kinds.CloseParen; span = nowhere }

abbrev comma : Token
comma = record { kind = kinds.Comma; span = nowhere }

abbrev colon : Token
colon = record { kind = kinds.Colon; span = nowhere }

pub group_zero : IsExact (too_deep (group_of (spelled_by SpellsExpr)).Spells (only kinds.OpenParen))
group_zero = begun_too_deep kinds.OpenParen refl (spelled_by SpellsExpr then terminal kinds.CloseParen).Spells _ ((name_tree, nowhere), named ∷ closing ∷ [], (named ∷ [], closing ∷ [], refl, name_spelled, (closing, refl, refl)))

pub triple_zero : IsExact (too_deep (triple_of (spelled_by SpellsExpr)).Spells (only kinds.OpenParen))
triple_zero =
    begun_too_deep kinds.OpenParen refl (spelled_by SpellsExpr then terminal kinds.Comma then spelled_by SpellsExpr then terminal kinds.Comma then spelled_by SpellsExpr then terminal kinds.CloseParen).Spells _ (
      (name_tree, (nowhere, (name_tree, (nowhere, (name_tree, nowhere))))),
      named ∷ comma ∷ named ∷ comma ∷ named ∷ closing ∷ [],
      (
        named ∷ [],
        comma ∷ named ∷ comma ∷ named ∷ closing ∷ [],
        refl,
        name_spelled,
        (
          comma ∷ [],
          named ∷ comma ∷ named ∷ closing ∷ [],
          refl,
          (comma, refl, refl),
          (
            named ∷ [],
            comma ∷ named ∷ closing ∷ [],
            refl,
            name_spelled,
            (
              comma ∷ [],
              named ∷ closing ∷ [],
              refl,
              (comma, refl, refl),
              (named ∷ [], closing ∷ [], refl, name_spelled, (closing, refl, refl)),
            ),
          ),
        ),
      ),
    )

pub branches_zero : IsExact (too_deep (branches_of (spelled_by SpellsExpr)).Spells (only kinds.Question))
branches_zero =
    begun_too_deep kinds.Question refl (spelled_by SpellsExpr then terminal kinds.Colon then spelled_by SpellsExpr).Spells _ (
      (name_tree, (nowhere, name_tree)),
      named ∷ colon ∷ named ∷ [],
      (named ∷ [], colon ∷ named ∷ [], refl, name_spelled, (colon ∷ [], named ∷ [], refl, (colon, refl, refl), name_spelled)),
    )

-- ---- each depth

pub opened_exact : {A : Type 0} (g : Grammar A) → IsExact g → g.reader.may_be_empty ≡ false → g.reader.begins ≡ 63 ∷ [] → g.reader.goes_on ≡ [] → IsExact (opened g)
opened_exact g G solid b c = seen_exact g.Spells (only kinds.OpenParen) [] g G (λ a t s. s) (λ a t s. s) solid (rw b refl) (rw c refl)

module _ (inner : Grammar Tree) (I : IsExact (seen_as SpellsExpr begins choices_go_on inner)) where
  abbrev E : Grammar Tree
  E = seen_as SpellsExpr begins choices_go_on inner

  pub group_exact : IsExact (group_of E)
  group_exact = making_exact _ _ (sequel (terminal_exact kinds.OpenParen refl) (sequel I (terminal_exact kinds.CloseParen refl) refl) refl)

  pub triple_exact : IsExact (triple_of E)
  triple_exact = making_exact _ _ (sequel (terminal_exact kinds.OpenParen refl) (sequel I (sequel (terminal_exact kinds.Comma refl) (sequel I (sequel (terminal_exact kinds.Comma refl) (sequel I (terminal_exact kinds.CloseParen refl) refl) refl) refl) refl) refl) refl)

  pub branches_exact : IsExact (branches_of E)
  branches_exact = making_exact _ _ (sequel (terminal_exact kinds.Question refl) (sequel I (sequel (terminal_exact kinds.Colon refl) I refl) refl) refl)

pub nested_expr_exact : (n : ℕ) → IsExact (nested_expr n)
unfolding expr_within
nested_expr_exact zero =
    seen_exact SpellsExpr begins choices_go_on (expr_within zero)
    (expr_from_exact (too_deep (group_of (spelled_by SpellsExpr)).Spells (only kinds.OpenParen)) (too_deep (triple_of (spelled_by SpellsExpr)).Spells (only kinds.OpenParen)) (too_deep (branches_of (spelled_by SpellsExpr)).Spells (only kinds.Question))
    (opened_exact _ group_zero refl refl refl) (opened_exact _ triple_zero refl refl refl)
    (seen_exact (branches_of (spelled_by SpellsExpr)).Spells (only kinds.Question) choices_go_on (too_deep (branches_of (spelled_by SpellsExpr)).Spells (only kinds.Question)) branches_zero (λ a t s. s) (λ a t s. s) refl refl refl))
    (nested_in expr_body steady_expr) (nested_out expr_body steady_expr) refl refl refl
nested_expr_exact (suc n) =
    let inner = nested_expr_exact n in
    seen_exact SpellsExpr begins choices_go_on (expr_within (suc n))
    (expr_from_exact (group_of (nested_expr n)) (triple_of (nested_expr n)) (branches_of (nested_expr n))
    (opened_exact (group_of (nested_expr n)) (group_exact (expr_within n) inner) refl refl refl) (opened_exact (triple_of (nested_expr n)) (triple_exact (expr_within n) inner) refl refl refl)
    (seen_exact (branches_of (nested_expr n)).Spells (only kinds.Question) choices_go_on (branches_of (nested_expr n)) (branches_exact (expr_within n) inner) (λ a t s. s) (λ a t s. s) refl refl refl))
    (nested_in expr_body steady_expr) (nested_out expr_body steady_expr) refl refl refl
