-- The scan finds the token that is one too many, and nothing else. Cited by other crates.
use Rattle.std.proofs.Common.{◌≡◌, ℕ, zero, suc, ◌+◌, Bool, true, false, cond, eqb, List, [], ◌∷◌, ◌++◌, Option, Some, None, refl, sym, ap, ◌∙◌, inl, inr, arith}
use Rattle.std.proofs.lemmas.Bool.{eqb-true}
use Rattle.td_ast.specs.declared.token.Token.{Token}
use Rattle.td_ast.specs.declared.token.Span.{Span}
use Rattle.td_ast.specs.declared.token.TokenKind.{TokenKind}
use Rattle.td_ast.specs.declared.token.TokenKind.TheVariants as kinds
use Rattle.td_ast.specs.declared.expressions.BinaryOperator.{BinaryOperator}
use Rattle.td_ast.specs.Trees.{Tree}
use Rattle.td_ast.specs.Kinds.{number_of_kind}
use Rattle.td_grammar.specs.Sets.{member, any_name, any_number, any_number_type, only, set_of}
use Rattle.td_grammar.specs.Spelling.{Begins, SpellsOne, SpellsBoth, SpellsMade, SpellsMaybe, SpellsAll, SpellsEither, NestedBelow}
use Rattle.td_grammar.specs.Limits.{count}
use Rattle.td_grammar.specs.declared.limits.TheConstants.{OPERATORS}
use Rattle.td_grammar.specs.Scan.{counted, outside, closed, still, after, scan, scan_on}
use Rattle.td_grammar.specs.Grammar.{Grammar, spelled_by, one}
use Rattle.td_grammar.specs.Tokens.{terminal, name, qualified, literal, number_type, word}
use Rattle.td_grammar.specs.Expressions.{sizeof_operand, leaning, comparing, products, sums, shifts, orders, equalities, bit_ands, bit_xors, bit_ors, ands, prim_from, un_from, group_of, triple_of, branches_of, expr_body, SpellsExpr, expr, nested_expr}
use Rattle.td_grammar.specs.Operators.{truth_of, unary_operator, product_operator, sum_operator, shift_operator, order_operator, equality_operator, bit_and_operator, bit_xor_operator, bit_or_operator, and_operator, or_operator, truth_kinds, unary_kinds}
use Rattle.td_grammar.proofs.Sets.{disjoint, covered}
use Rattle.td_grammar.proofs.Tools.{apart_at}
use Rattle.td_grammar.proofs.Exact.{IsExact}
use Rattle.td_grammar.proofs.Steady.{Relation}
use Rattle.td_grammar.proofs.Limited.{limited_exact}
use Rattle.td_grammar.proofs.Words.{terminal_known, number_type_exact, name_exact, literal_exact}
use Rattle.td_grammar.proofs.Levels.{unary_word, product_word, sum_word, shift_word, order_word, equality_word, bit_and_word, bit_xor_word, bit_or_word, and_word, or_word, truth_word}
use Rattle.td_grammar.proofs.Exprs.{nested_expr_exact}
use Rattle.td_grammar.proofs.Over.{nth_counted, over_nested}

abbrev on_depth : Option ℕ → (ℕ → Option ℕ) → Option ℕ
on_depth None f = None
on_depth (Some depth) f = f depth

-- how many parentheses are open after the tokens
abbrev pub open_after : ℕ → List Token → Option ℕ
open_after depth [] = Some depth
open_after depth (t ∷ tokens) = on_depth (after depth (number_of_kind t.kind)) (λ d. open_after d tokens)

pub after_append : (u v : List Token) (depth : ℕ) → open_after depth (u ++ v) ≡ on_depth (open_after depth u) (λ d. open_after d v)
after_append [] v depth = refl
after_append (t ∷ u) v depth = by_after (after depth (number_of_kind t.kind)) (λ d. after_append u v d)
  where
    by_after : (o : Option ℕ) → ((d : ℕ) → open_after d (u ++ v) ≡ on_depth (open_after d u) (λ d. open_after d v)) → on_depth o (λ d. open_after d (u ++ v)) ≡ on_depth (on_depth o (λ d. open_after d u)) (λ d. open_after d v)
    by_after None ih = refl
    by_after (Some d) ih = ih d

-- ---- what the scan finds

pub scan_found : (tokens : List Token) (depth left : ℕ) (t : Token) (r : List Token) → scan depth left tokens ≡ t ∷ r → (front : List Token) × (tokens ≡ front ++ t ∷ r) × (member counted (number_of_kind t.kind) ≡ true) × (count counted front ≡ left)
unfolding scan
scan_found [] depth left t r e = absurd cc
scan_found (s ∷ tokens) depth left t r e = by_token (after depth (number_of_kind s.kind)) (member counted (number_of_kind s.kind)) left (λ d l. scan_found tokens d l t r) refl e
  where
    by_token : (o : Option ℕ) (b : Bool) (left : ℕ) → ((d l : ℕ) → scan d l tokens ≡ t ∷ r → (front : List Token) × (tokens ≡ front ++ t ∷ r) × (member counted (number_of_kind t.kind) ≡ true) × (count counted front ≡ l)) → member counted (number_of_kind s.kind) ≡ b → scan_on o b left (s ∷ tokens) (λ d l. scan d l tokens) ≡ t ∷ r
        → (front : List Token) × (s ∷ tokens ≡ front ++ t ∷ r) × (member counted (number_of_kind t.kind) ≡ true) × (count counted front ≡ left)
    by_token None b left ih f e = absurd cc
    by_token (Some d) false left ih f e = let p = ih d left e in (s ∷ p.0, ap (λ (l : List Token). s ∷ l) p.1, p.2, rw f p.3)
    by_token (Some d) true zero ih f e = let same : s ≡ t = cc in ([], e, rw (← same) f, refl)
    by_token (Some d) true (suc left) ih f e = let p = ih d left e in (s ∷ p.0, ap (λ (l : List Token). s ∷ l) p.1, p.2, rw f (omega (arith, p.3)))

pub scan_finds : (front : List Token) (t : Token) (rest : List Token) (depth left d : ℕ) → member counted (number_of_kind t.kind) ≡ true → count counted front ≡ left → open_after depth (front ++ t ∷ []) ≡ Some d → scan depth left (front ++ t ∷ rest) ≡ t ∷ rest
unfolding scan
scan_finds [] t rest depth left d m c o = by_token (after depth (number_of_kind t.kind)) left (sym c) m o
  where
    by_token : (a : Option ℕ) (left : ℕ) → left ≡ 0 → member counted (number_of_kind t.kind) ≡ true → on_depth a (λ d. Some d) ≡ Some d → scan_on a (member counted (number_of_kind t.kind)) left (t ∷ rest) (λ d l. scan d l rest) ≡ t ∷ rest
    by_token None left z m o = absurd cc
    by_token (Some a) zero z m o = rw m refl
    by_token (Some a) (suc left) z m o = absurd (omega arith)
scan_finds (s ∷ front) t rest depth left d m c o = by_token (after depth (number_of_kind s.kind)) (member counted (number_of_kind s.kind)) left (λ a l. scan_finds front t rest a l d m) c o
  where
    by_token : (a : Option ℕ) (b : Bool) (left : ℕ) → ((a l : ℕ) → count counted front ≡ l → open_after a (front ++ t ∷ []) ≡ Some d → scan a l (front ++ t ∷ rest) ≡ t ∷ rest) → cond b (count counted front + 1) (count counted front) ≡ left → on_depth a (λ d. open_after d (front ++ t ∷ [])) ≡ Some d → scan_on a b left (s ∷ (front ++ t ∷ rest)) (λ d l. scan d l (front ++ t ∷ rest)) ≡ t ∷ rest
    by_token None b left ih c o = absurd cc
    by_token (Some a) false left ih c o = ih a left c o
    by_token (Some a) true zero ih c o = absurd (omega arith)
    by_token (Some a) true (suc left) ih c o = ih a left (omega arith) o

-- ---- an expression leaves as many open as there were

pub record IsClosed {A : Type 0} (P : Relation A) : Type 0 where
  pub closes : (a : A) (tokens : List Token) → P a tokens → (depth : ℕ) → open_after depth tokens ≡ Some depth

abbrev special : List ℕ
special = set_of (kinds.Semicolon ∷ kinds.Comma ∷ kinds.OpenParen ∷ kinds.CloseParen ∷ kinds.OpenBrace ∷ kinds.CloseBrace ∷ kinds.OpenBracket ∷ kinds.CloseBracket ∷ [])

less : (xs ys : List ℕ) (n : ℕ) → covered xs ys ≡ true → member ys n ≡ false → member xs n ≡ false
less [] ys n c f = refl
less (x ∷ xs) ys n c f = by_test (eqb x n) (member ys x) refl refl c f (less xs ys n)
  where
    by_test : (b d : Bool) → eqb x n ≡ b → member ys x ≡ d → cond d (covered xs ys) false ≡ true → member ys n ≡ false → (covered xs ys ≡ true → member ys n ≡ false → member xs n ≡ false) → cond b true (member xs n) ≡ false
    by_test true true p q c f ih = let same : x ≡ n = eqb-true x n p in absurd (cc (q, f, same))
    by_test false true p q c f ih = ih c f
    by_test b false p q c f ih = absurd cc

after_plain : (set : List ℕ) (n depth : ℕ) → disjoint set special ≡ true → member set n ≡ true → after depth n ≡ Some depth
after_plain set n depth d m =
    let none : member special n ≡ false = apart_at set special n d m in
    by_each (member outside n) (member (only kinds.OpenParen) n) (member (only kinds.CloseParen) n) (member (only kinds.Comma) n) (less outside special n refl none) (less (only kinds.OpenParen) special n refl none) (less (only kinds.CloseParen) special n refl none) (less (only kinds.Comma) special n refl none)
  where
    by_each : (a b c e : Bool) → a ≡ false → b ≡ false → c ≡ false → e ≡ false → cond a None (cond b (Some (suc depth)) (cond c (closed depth) (cond e (still depth) (Some depth)))) ≡ Some depth
    by_each a b c e p q r s = rw (p, q, r, s) refl

-- of an exact production of one token that is no special one
closed_one : {A : Type 0} (set : List ℕ) (f : Token → Option A) → ((t : Token) (a : A) → f t ≡ Some a → member set (number_of_kind t.kind) ≡ true) → disjoint set special ≡ true → IsClosed (SpellsOne f)
closed_one set f known d = record { closes = λ a tokens (t, e, g) depth. let one : after depth (number_of_kind t.kind) ≡ Some depth = after_plain set (number_of_kind t.kind) depth d (known t a g) in rw (e, one) refl }

closed_both : {A B : Type 0} {P : Relation A} {Q : Relation B} → IsClosed P → IsClosed Q → IsClosed (SpellsBoth P Q)
closed_both p q = record { closes = λ x tokens s depth. let first = p.closes x.0 s.0 s.3 depth in rw (s.2, after_append s.0 s.1 depth, first) (q.closes x.1 s.1 s.4 depth) }

closed_made : {A B : Type 0} {P : Relation A} (f : A → B) → IsClosed P → IsClosed (SpellsMade f P)
closed_made f p = record { closes = λ b tokens s depth. p.closes s.0 tokens s.2 depth }

closed_maybe : {A : Type 0} {P : Relation A} → IsClosed P → IsClosed (SpellsMaybe P)
closed_maybe {A = A} {P = P} p = record { closes = by_option }
  where
    by_option : (o : Option A) (tokens : List Token) → SpellsMaybe P o tokens → (depth : ℕ) → open_after depth tokens ≡ Some depth
    by_option None tokens s depth = rw s refl
    by_option (Some a) tokens s depth = p.closes a tokens s depth

closed_all : {A : Type 0} {P : Relation A} → IsClosed P → IsClosed (SpellsAll P)
closed_all {A = A} {P = P} p = record { closes = by_list }
  where
    by_list : (xs : List A) (tokens : List Token) → SpellsAll P xs tokens → (depth : ℕ) → open_after depth tokens ≡ Some depth
    by_list [] tokens s depth = rw s refl
    by_list (x ∷ xs) tokens s depth = let first = p.closes x s.0 s.3 depth in rw (s.2, after_append s.0 s.1 depth, first) (by_list xs s.1 s.4 depth)

closed_either : {A : Type 0} {P Q : Relation A} → IsClosed P → IsClosed Q → IsClosed (SpellsEither P Q)
closed_either {A = A} {P = P} {Q = Q} p q = record { closes = by_side }
  where
    by_side : (a : A) (tokens : List Token) → SpellsEither P Q a tokens → (depth : ℕ) → open_after depth tokens ≡ Some depth
    by_side a tokens (inl s) depth = p.closes a tokens s depth
    by_side a tokens (inr s) depth = q.closes a tokens s depth

-- ---- in parentheses

number_is : (k : TokenKind) (s : Span) (tokens : List Token) → (terminal k).Spells s tokens → (t : Token) × (tokens ≡ t ∷ []) × (number_of_kind t.kind ≡ number_of_kind k)
number_is k s tokens (t, e, f) = (t, e, by_test (eqb (number_of_kind k) (number_of_kind t.kind)) refl (terminal_known k t s f))
  where
    by_test : (b : Bool) → eqb (number_of_kind k) (number_of_kind t.kind) ≡ b → cond b true false ≡ true → number_of_kind t.kind ≡ number_of_kind k
    by_test true e m = sym (eqb-true (number_of_kind k) (number_of_kind t.kind) e)
    by_test false e m = absurd cc

-- keeps one that is open
record IsKept {A : Type 0} (P : Relation A) : Type 0 where
  pub keeps : (a : A) (tokens : List Token) → P a tokens → (depth : ℕ) → open_after (suc depth) tokens ≡ Some (suc depth)

-- closes one
record IsClosing {A : Type 0} (P : Relation A) : Type 0 where
  pub closing : (a : A) (tokens : List Token) → P a tokens → (depth : ℕ) → open_after (suc depth) tokens ≡ Some depth

kept : {A : Type 0} {P : Relation A} → IsClosed P → IsKept P
kept p = record { keeps = λ a tokens s depth. p.closes a tokens s (suc depth) }

kept_comma : IsKept (terminal kinds.Comma).Spells
kept_comma = record { keeps = λ a tokens s depth. let n = number_is kinds.Comma a tokens s in let same = n.2 in rw (n.1, same) refl }

closing_terminal : IsClosing (terminal kinds.CloseParen).Spells
closing_terminal = record { closing = λ a tokens s depth. let n = number_is kinds.CloseParen a tokens s in let same = n.2 in rw (n.1, same) refl }

closing_both : {A B : Type 0} {P : Relation A} {Q : Relation B} → IsKept P → IsClosing Q → IsClosing (SpellsBoth P Q)
closing_both p q = record { closing = λ x tokens s depth. let first = p.keeps x.0 s.0 s.3 depth in rw (s.2, after_append s.0 s.1 (suc depth), first) (q.closing x.1 s.1 s.4 depth) }

closed_parentheses : {B : Type 0} {Q : Relation B} → IsClosing Q → IsClosed (SpellsBoth (terminal kinds.OpenParen).Spells Q)
closed_parentheses q = record { closes = λ x tokens s depth. let n = number_is kinds.OpenParen x.0 s.0 s.3 in let same = n.2 in rw (s.2, n.1, same) (q.closing x.1 s.1 s.4 depth) }

closed_terminal : (k : TokenKind) → disjoint (number_of_kind k ∷ []) special ≡ true → IsClosed (terminal k).Spells
closed_terminal k d = closed_one (number_of_kind k ∷ []) _ (λ t a e. terminal_known k t a e) d

-- what an exact production of one token says of its token
known_by : {A : Type 0} (g : Grammar A) → IsExact g → (t : Token) (a : A) → g.Spells a (t ∷ []) → member g.reader.begins (number_of_kind t.kind) ≡ true
known_by g G t a s = G.begun a t [] s

closed_name : IsClosed name.Spells
closed_name = closed_one (only any_name) _ (λ t a e. known_by name name_exact t a (t, refl, e)) refl

closed_qualified : IsClosed qualified.Spells
closed_qualified = closed_made _ (closed_both closed_name (closed_maybe (closed_made _ (closed_both (closed_terminal kinds.Dot refl) closed_name))))

closed_leaning : (operator : Grammar (BinaryOperator × Span)) (g : Grammar Tree) → IsClosed operator.Spells → IsClosed g.Spells → IsClosed (leaning operator g).Spells
closed_leaning operator g o p = closed_made _ (closed_both p (closed_all (closed_both o p)))

closed_comparing : (operator : Grammar (BinaryOperator × Span)) (g : Grammar Tree) → IsClosed operator.Spells → IsClosed g.Spells → IsClosed (comparing operator g).Spells
closed_comparing operator g o p = closed_made _ (closed_both p (closed_maybe (closed_both o p)))

module _ (P : Relation Tree) (p : IsClosed P) where
  closed_group : IsClosed (group_of (spelled_by P)).Spells
  closed_group = closed_made _ (closed_parentheses (closing_both (kept p) closing_terminal))

  closed_triple : IsClosed (triple_of (spelled_by P)).Spells
  closed_triple = closed_made _ (closed_parentheses (closing_both (kept p) (closing_both kept_comma (closing_both (kept p) (closing_both kept_comma (closing_both (kept p) closing_terminal))))))

  closed_branches : IsClosed (branches_of (spelled_by P)).Spells
  closed_branches = closed_made _ (closed_both (closed_terminal kinds.Question refl) (closed_both p (closed_both (closed_terminal kinds.Colon refl) p)))

  closed_sizeof : IsClosed sizeof_operand.Spells
  closed_sizeof = closed_either (closed_made _ (closed_one (only any_number_type) _ (λ t a e. known_by number_type number_type_exact t a (t, refl, e)) refl)) (closed_either (closed_made _ closed_qualified) (closed_made _ (closed_terminal kinds.This refl)))

  closed_prim : IsClosed (prim_from (group_of (spelled_by P)) (triple_of (spelled_by P))).Spells
  closed_prim =
      closed_either (closed_made _ (closed_one (only any_number) _ (λ t a e. known_by literal literal_exact t a (t, refl, e)) refl))
      (closed_either (closed_made _ closed_qualified)
      (closed_either (closed_made _ (closed_one truth_kinds _ (λ t a e. known_by (word truth_kinds truth_of) truth_word t a (t, refl, e)) refl))
      (closed_either (closed_made _ (closed_terminal kinds.FieldPos refl))
      (closed_either (closed_made _ (closed_both (closed_terminal kinds.Sizeof refl) (closed_parentheses (closing_both (kept closed_sizeof) closing_terminal))))
      (closed_either closed_group (closed_made _ (closed_both (closed_terminal kinds.IsRangeOkay refl) closed_triple)))))))

  abbrev un : Grammar Tree
  un = un_from (group_of (spelled_by P)) (triple_of (spelled_by P))

  closed_word : (operator : Grammar (BinaryOperator × Span)) (set : List ℕ) (f : Token → Option (BinaryOperator × Span)) → IsExact (one set f) → disjoint set special ≡ true → IsClosed (SpellsOne f)
  closed_word operator set f G d = closed_one set f (λ t a e. known_by (one set f) G t a (t, refl, e)) d

  closed_body : IsClosed (expr_body P)
  closed_body =
      closed_made _ (closed_both
      (closed_leaning or_operator (ands un) (closed_word or_operator _ _ or_word refl) (closed_leaning and_operator (bit_ors un) (closed_word and_operator _ _ and_word refl)
      (closed_leaning bit_or_operator (bit_xors un) (closed_word bit_or_operator _ _ bit_or_word refl) (closed_leaning bit_xor_operator (bit_ands un) (closed_word bit_xor_operator _ _ bit_xor_word refl)
      (closed_leaning bit_and_operator (equalities un) (closed_word bit_and_operator _ _ bit_and_word refl) (closed_comparing equality_operator (orders un) (closed_word equality_operator _ _ equality_word refl)
      (closed_comparing order_operator (shifts un) (closed_word order_operator _ _ order_word refl) (closed_leaning shift_operator (sums un) (closed_word shift_operator _ _ shift_word refl)
      (closed_leaning sum_operator (products un) (closed_word sum_operator _ _ sum_word refl) (closed_leaning product_operator un (closed_word product_operator _ _ product_word refl)
      (closed_made _ (closed_both (closed_all (closed_one unary_kinds _ (λ t a e. known_by unary_operator unary_word t a (t, refl, e)) refl)) closed_prim))))))))))))
      (closed_maybe closed_branches))

closed_below : (n : ℕ) → IsClosed (NestedBelow expr_body n)
unfolding NestedBelow
closed_below zero = record { closes = λ a tokens s depth. absurd s }
closed_below (suc n) = record { closes = (closed_body (NestedBelow expr_body n) (closed_below n)).closes }

-- what begins an expression is scanned to its end
begun_scanned : (tokens : List Token) → Begins SpellsExpr tokens → (d : ℕ) × (open_after 0 tokens ≡ Some d)
begun_scanned tokens (a, more, (n, s)) = by_first (open_after 0 tokens) refl (sym (after_append tokens more 0) ∙ (closed_below n).closes a (tokens ++ more) s 0)
  where
    by_first : (o : Option ℕ) → open_after 0 tokens ≡ o → on_depth (open_after 0 tokens) (λ d. open_after d more) ≡ Some 0 → (d : ℕ) × (open_after 0 tokens ≡ Some d)
    by_first None e f = absurd (cc (sym (ap (λ (o : Option ℕ). on_depth o (λ d. open_after d more)) e) ∙ f))
    by_first (Some d) e f = (d, e)

pub expr_exact : IsExact expr
unfolding expr
expr_exact =
    limited_exact counted OPERATORS (scan 0 OPERATORS) (nested_expr OPERATORS) (nested_expr_exact OPERATORS)
    (λ tokens t r e. scan_found tokens 0 OPERATORS t r e)
    (λ front t rest m c b. let d = begun_scanned (front ++ t ∷ []) b in scan_finds front t rest 0 OPERATORS d.0 m c d.1)
    (λ tokens p. nth_counted counted OPERATORS tokens ((over_nested OPERATORS).over tokens p))
