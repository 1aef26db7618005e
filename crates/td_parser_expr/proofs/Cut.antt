-- Reading up to and with the token that would be one too many.
use Rattle.std.proofs.Common.{◌≡◌, ℕ, ◌+◌, ◌-◌, ◌≤◌, ◌<◌, Bool, true, false, cond, ltb, nat_lt, List, [], ◌∷◌, ◌++◌, length, take, drop, refl, sym, ap, subst, ◌∙◌, append_assoc, inl, inr, arith}
use Rattle.std.proofs.lemmas.Bool.{ltb-true}
use Rattle.std.proofs.lemmas.List.{append-nil, length-append, take_at, drop_at}
use Rattle.std.proofs.Common.{length-take}
use Rattle.td_ast.specs.declared.token.Token.{Token}
use Rattle.td_grammar.specs.Spelling.{Begins}
use Rattle.td_grammar.specs.Reading.{Outcome, Got, Bad, Deep, judged}
use Rattle.td_grammar.specs.Grammar.{Grammar}
use Rattle.td_grammar.specs.declared.limits.TheConstants.{OPERATORS}
use Rattle.td_grammar.specs.Scan.{scan}
use Rattle.td_grammar.specs.Expressions.{expr, nested_expr}
use Rattle.td_grammar.proofs.Exact.{IsExact}
use Rattle.td_grammar.proofs.Scanned.{scan_found, expr_exact}
use Rattle.td_grammar.proofs.Limited.{taken_got, taken_bad, judge_shorter}

module _ {A : Type 0} (g : Grammar A) (G : IsExact g) (tokens over : List Token)
    (found : (t : Token) (r : List Token) → over ≡ t ∷ r → (front : List Token) × (tokens ≡ front ++ t ∷ r)) where
  pub over_within : length over ≤ length tokens
  over_within = by_list over refl
    where
      by_list : (l : List Token) → over ≡ l → length over ≤ length tokens
      by_list [] e = rw e (omega arith)
      by_list (t ∷ r) e = let p = found t r e in omega (arith, ap length e, ap length p.1, length-append p.0 (t ∷ r))

  module _ (t : Token) (r front : List Token) (o : over ≡ t ∷ r) (e : tokens ≡ front ++ t ∷ r) where
    whole : tokens ≡ (front ++ t ∷ []) ++ r
    whole = e ∙ sym (append_assoc front (t ∷ []) r)

    begun_deep : Begins g.Spells (front ++ t ∷ []) → judged over (g.reader.read tokens) ≡ Deep over
    begun_deep b = by_read (g.reader.read tokens) refl
      where
        by_read : (x : Outcome A) → g.reader.read tokens ≡ x → judged over (g.reader.read tokens) ≡ Deep over
        by_read (Got a q) f = judge_shorter over (g.reader.read tokens) q (inl (a, f)) (omega (arith, ap length o, taken_got g G (front ++ t ∷ []) r a q b (subst (λ (l : List Token). g.reader.read l ≡ Got a q) whole f)))
        by_read (Bad q) f = judge_shorter over (g.reader.read tokens) q (inr f) (omega (arith, ap length o, taken_bad g G (front ++ t ∷ []) r q b (subst (λ (l : List Token). g.reader.read l ≡ Bad q) whole f)))
        by_read (Deep q) f = rw f refl

    got_none : (a : A) → g.reader.read (front ++ t ∷ []) ≡ Got a [] → judged over (g.reader.read tokens) ≡ Deep over
    got_none a f = let u = G.takes (front ++ t ∷ []) a [] f in begun_deep (a, [], subst (λ (l : List Token). g.Spells a l) (sym (u.1 ∙ append-nil u.0) ∙ sym (append-nil (front ++ t ∷ []))) u.2)

    bad_none : g.reader.read (front ++ t ∷ []) ≡ Bad [] → judged over (g.reader.read tokens) ≡ Deep over
    bad_none f = let u = G.ends (front ++ t ∷ []) [] f in begun_deep (subst (λ (l : List Token). Begins g.Spells l) (sym (u.1 ∙ append-nil u.0)) u.2)

    deep_any : (q : List Token) → g.reader.read (front ++ t ∷ []) ≡ Deep q → judged over (g.reader.read tokens) ≡ Deep over
    deep_any q f =
        let d = G.deep (front ++ t ∷ []) q f in
        let split : tokens ≡ (d.0 ++ d.1 ∷ []) ++ (d.2 ++ r) = whole ∙ (ap (λ (l : List Token). l ++ r) d.3 ∙ (append_assoc d.0 (d.1 ∷ d.2) r ∙ sym (append_assoc d.0 (d.1 ∷ []) (d.2 ++ r)))) in
        let p = G.passes (d.0 ++ d.1 ∷ []) (d.2 ++ r) d.5 in
        let there : g.reader.read tokens ≡ Deep p.0 = ap (λ (l : List Token). g.reader.read l) split ∙ p.1 in
        rw there refl

    -- some tokens are left of those up to it
    not_shorter : (f : List Token) (x : Token) (y : List Token) → front ++ t ∷ [] ≡ f ++ x ∷ y → nat_lt (length (x ∷ (y ++ r))) (length over) ≡ false
    not_shorter f x y h = by_test (nat_lt (length (x ∷ (y ++ r))) (length over)) refl
      where
        by_test : (b : Bool) → ltb (length (x ∷ (y ++ r))) (length over) ≡ b → b ≡ false
        by_test false k = refl
        by_test true k = absurd (omega (arith, ltb-true (length (x ∷ (y ++ r))) (length over) k, ap length o, length-append y r))

    joined : (f : List Token) (x : Token) (y : List Token) → front ++ t ∷ [] ≡ f ++ x ∷ y → tokens ≡ f ++ x ∷ (y ++ r)
    joined f x y h = whole ∙ (ap (λ (l : List Token). l ++ r) h ∙ append_assoc f (x ∷ y) r)

    got_some : (a : A) (x : Token) (y : List Token) → g.reader.read (front ++ t ∷ []) ≡ Got a (x ∷ y) → (f : List Token) × (tokens ≡ f ++ x ∷ (y ++ r)) × (front ++ t ∷ [] ≡ f ++ x ∷ y) × (judged over (g.reader.read tokens) ≡ Got a (x ∷ (y ++ r)))
    got_some a x y k =
        let u = G.takes (front ++ t ∷ []) a (x ∷ y) k in
        let there : g.reader.read tokens ≡ Got a (x ∷ (y ++ r)) = ap (λ (l : List Token). g.reader.read l) (joined u.0 x y u.1) ∙ G.keeps_got u.0 x y (y ++ r) a (subst (λ (l : List Token). g.reader.read l ≡ Got a (x ∷ y)) u.1 k) in
        let test = not_shorter u.0 x y u.1 in
        (u.0, joined u.0 x y u.1, u.1, rw (there, test) refl)

    bad_some : (x : Token) (y : List Token) → g.reader.read (front ++ t ∷ []) ≡ Bad (x ∷ y) → (f : List Token) × (tokens ≡ f ++ x ∷ (y ++ r)) × (front ++ t ∷ [] ≡ f ++ x ∷ y) × (judged over (g.reader.read tokens) ≡ Bad (x ∷ (y ++ r)))
    bad_some x y k =
        let u = G.ends (front ++ t ∷ []) (x ∷ y) k in
        let there : g.reader.read tokens ≡ Bad (x ∷ (y ++ r)) = ap (λ (l : List Token). g.reader.read l) (joined u.0 x y u.1) ∙ G.keeps_bad u.0 x y (y ++ r) (subst (λ (l : List Token). g.reader.read l ≡ Bad (x ∷ y)) u.1 k) in
        let test = not_shorter u.0 x y u.1 in
        (u.0, joined u.0 x y u.1, u.1, rw (there, test) refl)

    -- the tokens up to it, and what is left of them
    cut_is : take (length tokens - length over + 1) tokens ≡ front ++ t ∷ []
    cut_is =
        let at : length tokens - length over + 1 ≡ length (front ++ t ∷ []) = omega (arith, ap length o, ap length e, length-append front (t ∷ r), length-append front (t ∷ [])) in
        rw (whole) (take_at (front ++ t ∷ []) r (length ((front ++ t ∷ []) ++ r) - length over + 1) (sym (omega (arith, at, ap length whole))))

    left_is : (f : List Token) (x : Token) (y : List Token) → tokens ≡ f ++ x ∷ (y ++ r) → front ++ t ∷ [] ≡ f ++ x ∷ y → drop (length tokens - length over + 1 - length (x ∷ y)) tokens ≡ x ∷ (y ++ r)
    left_is f x y h k =
        let at : length tokens - length over + 1 - length (x ∷ y) ≡ length f = omega (arith, ap length o, ap length h, ap length e, length-append front (t ∷ r), length-append f (x ∷ (y ++ r)), length-append y r, ap length k, length-append front (t ∷ []), length-append f (x ∷ y)) in
        rw (at, h) (drop_at f (x ∷ (y ++ r)) (length f) refl)

  -- ---- what the code owes

  module _ (some : 0 < length over) where
    pub cut_got : (a : A) (rest : List Token) → g.reader.read (take (length tokens - length over + 1) tokens) ≡ Got a rest → length rest ≤ length tokens - length over + 1
    cut_got a rest k = let u = G.takes (take (length tokens - length over + 1) tokens) a rest k in omega (arith, ap length u.1, length-append u.0 rest, length-take-le (length tokens - length over + 1) tokens)
      where
        length-take-le : (n : ℕ) (l : List Token) → length (take n l) ≤ n
        length-take-le n l = grind (arith, length-take)

    pub cut_bad : (rest : List Token) → g.reader.read (take (length tokens - length over + 1) tokens) ≡ Bad rest → length rest ≤ length tokens - length over + 1
    cut_bad rest k = let u = G.ends (take (length tokens - length over + 1) tokens) rest k in omega (arith, ap length u.1, length-append u.0 rest, length-take-le (length tokens - length over + 1) tokens)
      where
        length-take-le : (n : ℕ) (l : List Token) → length (take n l) ≤ n
        length-take-le n l = grind (arith, length-take)

    abbrev slice : List Token
    slice = take (length tokens - length over + 1) tokens

    data Cut : Type 0 where
      cut : (t : Token) (r front : List Token) → over ≡ t ∷ r → tokens ≡ front ++ t ∷ r → Cut

    the_cut : Cut
    the_cut = by_list over refl some
      where
        by_list : (l : List Token) → over ≡ l → 0 < length over → Cut
        by_list [] o lt = absurd (omega (arith, lt, ap length o))
        by_list (t ∷ r) o lt = let p = found t r o in cut t r p.0 o p.1

    pub owes_got_none : (a : A) (rest : List Token) → length rest ≡ 0 → g.reader.read slice ≡ Got a rest → judged over (g.reader.read tokens) ≡ Deep over
    owes_got_none a [] z k = by_cut the_cut
      where
        by_cut : Cut → judged over (g.reader.read tokens) ≡ Deep over
        by_cut (cut t r front o e) = got_none t r front o e a (subst (λ (l : List Token). g.reader.read l ≡ Got a []) (cut_is t r front o e) k)
    owes_got_none a (x ∷ y) z k = absurd (omega (arith, z))

    pub owes_bad_none : (rest : List Token) → length rest ≡ 0 → g.reader.read slice ≡ Bad rest → judged over (g.reader.read tokens) ≡ Deep over
    owes_bad_none [] z k = by_cut the_cut
      where
        by_cut : Cut → judged over (g.reader.read tokens) ≡ Deep over
        by_cut (cut t r front o e) = bad_none t r front o e (subst (λ (l : List Token). g.reader.read l ≡ Bad []) (cut_is t r front o e) k)
    owes_bad_none (x ∷ y) z k = absurd (omega (arith, z))

    pub owes_deep : (rest : List Token) → g.reader.read slice ≡ Deep rest → judged over (g.reader.read tokens) ≡ Deep over
    owes_deep rest k = by_cut the_cut
      where
        by_cut : Cut → judged over (g.reader.read tokens) ≡ Deep over
        by_cut (cut t r front o e) = deep_any t r front o e rest (subst (λ (l : List Token). g.reader.read l ≡ Deep rest) (cut_is t r front o e) k)

    pub owes_got_some : (a : A) (rest : List Token) → (length rest ≡ 0 → ⊥) → g.reader.read slice ≡ Got a rest → judged over (g.reader.read tokens) ≡ Got a (drop (length tokens - length over + 1 - length rest) tokens)
    owes_got_some a [] z k = absurd (z refl)
    owes_got_some a (x ∷ y) z k = by_cut the_cut
      where
        by_cut : Cut → judged over (g.reader.read tokens) ≡ Got a (drop (length tokens - length over + 1 - length (x ∷ y)) tokens)
        by_cut (cut t r front o e) =
            let p = got_some t r front o e a x y (subst (λ (l : List Token). g.reader.read l ≡ Got a (x ∷ y)) (cut_is t r front o e) k) in
            p.3 ∙ ap (λ (l : List Token). Got a l) (sym (left_is t r front o e p.0 x y p.1 p.2))

    pub owes_bad_some : (rest : List Token) → (length rest ≡ 0 → ⊥) → g.reader.read slice ≡ Bad rest → judged over (g.reader.read tokens) ≡ Bad (drop (length tokens - length over + 1 - length rest) tokens)
    owes_bad_some [] z k = absurd (z refl)
    owes_bad_some (x ∷ y) z k = by_cut the_cut
      where
        by_cut : Cut → judged over (g.reader.read tokens) ≡ Bad (drop (length tokens - length over + 1 - length (x ∷ y)) tokens)
        by_cut (cut t r front o e) =
            let p = bad_some t r front o e x y (subst (λ (l : List Token). g.reader.read l ≡ Bad (x ∷ y)) (cut_is t r front o e) k) in
            p.3 ∙ ap (λ (l : List Token). Bad l) (sym (left_is t r front o e p.0 x y p.1 p.2))

-- ---- whole expressions

judged_none : {A : Type 0} (o : Outcome A) → ((q : List Token) → o ≡ Deep q → ⊥) → judged [] o ≡ o
judged_none (Got a q) not = by_test (nat_lt (length q) 0) refl
  where
    by_test : (b : Bool) → ltb (length q) 0 ≡ b → cond b (Deep []) (Got a q) ≡ Got a q
    by_test true e = absurd (omega (arith, ltb-true (length q) 0 e))
    by_test false e = refl
judged_none {A} (Bad q) not = by_test (nat_lt (length q) 0) refl
  where
    by_test : (b : Bool) → ltb (length q) 0 ≡ b → ◌≡◌ {A = Outcome A} (cond b (Deep []) (Bad q)) (Bad q)
    by_test true e = absurd (omega (arith, ltb-true (length q) 0 e))
    by_test false e = refl
judged_none (Deep q) not = absurd (not q refl)

-- where the scan finds none, none is nested too deep
pub none_over : (tokens : List Token) → scan 0 OPERATORS tokens ≡ [] → judged (scan 0 OPERATORS tokens) ((nested_expr OPERATORS).reader.read tokens) ≡ (nested_expr OPERATORS).reader.read tokens
unfolding expr
none_over tokens s = rw s (judged_none ((nested_expr OPERATORS).reader.read tokens) (λ q e. no_deep q e))
  where
    no_deep : (q : List Token) → (nested_expr OPERATORS).reader.read tokens ≡ Deep q → ⊥
    no_deep q e =
        let told : judged (scan 0 OPERATORS tokens) ((nested_expr OPERATORS).reader.read tokens) ≡ Deep [] = rw (s, e) refl in
        let d = expr_exact.deep tokens [] told in
        cc (d.4)

pub scan_part : (tokens over : List Token) → scan 0 OPERATORS tokens ≡ over → (t : Token) (r : List Token) → over ≡ t ∷ r → (front : List Token) × (tokens ≡ front ++ t ∷ r)
scan_part tokens over e t r o = let p = scan_found tokens 0 OPERATORS t r (e ∙ o) in (p.0, p.1)
