-- Every list of tokens has an answer, and no two. Cited by other crates.
use Rattle.std.proofs.Common.{◌≡◌, ℕ, suc, ◌+◌, ◌-◌, ◌≤◌, ◌<◌, take, drop, Bool, true, false, ltb, List, [], ◌∷◌, ◌++◌, length, refl, sym, ap, subst, ◌∙◌, append_assoc, inl, inr, arith}
use Rattle.std.proofs.lemmas.Bool.{ltb-true, ltb-false}
use Rattle.std.proofs.lemmas.List.{length-append, take_at, take-append-drop, take-take}
use Rattle.std.proofs.Common.{length-drop}
use Rattle.td_ast.specs.declared.token.Token.{Token}
use Rattle.td_grammar.specs.Spelling.{Begins, IsFirstRefused}
use Rattle.td_grammar.specs.Limits.{IsFirstDeep, IsWithinLimits}
use Rattle.td_grammar.specs.Reading.{Outcome, Got, Bad, Deep, read_whole}
use Rattle.td_grammar.specs.Grammar.{Grammar}
use Rattle.td_grammar.specs.Laws.{Answer, Tree, Refused, TooDeep}
use Rattle.td_grammar.proofs.Exact.{IsExact}
use Rattle.td_grammar.proofs.Whole.{whole_found, whole_only, whole_refused, whole_deep, whole_passes, first_refused}

module _ {A : Type 0} (g : Grammar A) (G : IsExact g) where
  -- a token that passes a limit at a place: reading stops there or sooner
  passes_at : (tokens : List Token) (place : ℕ) → place < length tokens → g.Passes (take (place + 1) tokens) → (over : List Token) × (read_whole g.reader tokens ≡ Deep over) × (length tokens ≤ length over + place)
  passes_at tokens place lt p =
      let w = whole_passes g G (take (place + 1) tokens) (drop (place + 1) tokens) p in
      let whole : take (place + 1) tokens ++ drop (place + 1) tokens ≡ tokens = take-append-drop (place + 1) tokens in
      (w.0, subst (λ (l : List Token). read_whole g.reader l ≡ Deep w.0) whole w.1, omega (arith, w.2, length-drop (place + 1) tokens))

  -- where a limit is named, its place
  pub deep_at : (tokens over : List Token) → read_whole g.reader tokens ≡ Deep over → IsFirstDeep g.Passes tokens (length tokens - length over)
  deep_at tokens over e = by_front d.0 d.1 d.2 d.3 d.4 d.5
    where
      d : (front : List Token) × (t : Token) × (r : List Token) × (tokens ≡ front ++ t ∷ r) × (over ≡ t ∷ r) × g.Passes (front ++ t ∷ [])
      d = whole_deep g G tokens over e

      deep_same : (l m : List Token) → ◌≡◌ {A = Outcome A} (Deep l) (Deep m) → l ≡ m
      deep_same l m h = cc

      by_front : (front : List Token) (t : Token) (r : List Token) → tokens ≡ front ++ t ∷ r → over ≡ t ∷ r → g.Passes (front ++ t ∷ []) → IsFirstDeep g.Passes tokens (length tokens - length over)
      by_front front t r f h p =
          let size : length tokens ≡ length front + suc (length r) = ap length f ∙ length-append front (t ∷ r) in
          let place : length tokens - length over ≡ length front = omega (arith, size, ap length h) in
          let one : take (length front + 1) tokens ≡ front ++ t ∷ [] = rw (f, ← append_assoc front (t ∷ []) r) (take_at (front ++ t ∷ []) r (length front + 1) (length-append front (t ∷ []) ∙ omega arith)) in
          subst (λ (n : ℕ). IsFirstDeep g.Passes tokens n) (sym place) (record {
            within = omega (arith, size);
            here = subst (λ (l : List Token). g.Passes l) (sym one) p;
            before = λ sooner lt q.
                let w = passes_at tokens sooner (omega (arith, size)) q in
                let same : over ≡ w.0 = deep_same over w.0 (sym e ∙ w.1) in
                omega (arith, lt, w.2, ap length same, ap length h, size);
          })

  -- what isn't named deep is within the limits
  pub not_deep : (tokens : List Token) → ((over : List Token) → read_whole g.reader tokens ≡ Deep over → ⊥) → IsWithinLimits g.Passes tokens
  not_deep tokens not place lt p = let w = passes_at tokens place lt p in not w.0 w.1

  -- up to a token that passes a limit, tokens begin a spelling
  pub deep_before : (tokens : List Token) (place other : ℕ) → IsFirstDeep g.Passes tokens place → IsFirstRefused g.Spells tokens other → place < other
  deep_before tokens place other D R = by_test (ltb place other) refl
    where
      by_test : (b : Bool) → ltb place other ≡ b → place < other
      by_test true f = ltb-true place other f
      by_test false f =
          let le = ltb-false place other f in
          absurd (R.there (omega (arith, le, D.within)) (sooner (other + 1) (place + 1) (omega (arith, le)) (G.passed (take (place + 1) tokens) D.here)))
        where
          sooner : (n m : ℕ) → n ≤ m → Begins g.Spells (take m tokens) → Begins g.Spells (take n tokens)
          sooner n m le (a, more, s) = (a, drop n (take m tokens) ++ more, subst (λ (l : List Token). g.Spells a l) (parts ∙ append_assoc (take n tokens) (drop n (take m tokens)) more) s)
            where
              parts : take m tokens ++ more ≡ (take n tokens ++ drop n (take m tokens)) ++ more
              parts = ap (λ (l : List Token). l ++ more) (sym (take-append-drop n (take m tokens)) ∙ ap (λ (l : List Token). l ++ drop n (take m tokens)) (take-take n m tokens le))

  -- every list of tokens has an answer
  pub answer : (tokens : List Token) → Answer g tokens
  answer tokens = by_outcome (read_whole g.reader tokens) refl
    where
      by_outcome : (o : Outcome A) → read_whole g.reader tokens ≡ o → Answer g tokens
      by_outcome (Got a rest) e = Tree a (whole_found g G tokens a rest e) (not_deep tokens (λ over h. cc (e, h)))
      by_outcome (Bad rest) e = Refused (length tokens - length rest) (first_refused g G tokens rest (whole_refused g G tokens rest e)) (not_deep tokens (λ over h. cc (e, h)))
      by_outcome (Deep rest) e = TooDeep (length tokens - length rest) (deep_at tokens rest e)

  -- a tree within the limits is read
  pub within_read : (tokens : List Token) (a : A) → g.Spells a tokens → IsWithinLimits g.Passes tokens → read_whole g.reader tokens ≡ Got a []
  within_read tokens a s within =
      elim (whole_only g G tokens a s) [
        | inl got ↦ got
        | inr over ↦ let D = deep_at tokens over.0 over.1 in absurd (within (length tokens - length over.0) D.within D.here)
      ]

  -- the first that passes a limit is the one that is named
  pub deep_once : (tokens : List Token) (p q : ℕ) → IsFirstDeep g.Passes tokens p → IsFirstDeep g.Passes tokens q → p ≡ q
  deep_once tokens p q P Q = by_test (ltb p q) (ltb q p) refl refl
    where
      by_test : (b c : Bool) → ltb p q ≡ b → ltb q p ≡ c → p ≡ q
      by_test true c e f = absurd (Q.before p (ltb-true p q e) P.here)
      by_test false true e f = absurd (P.before q (ltb-true q p f) Q.here)
      by_test false false e f = omega (arith, ltb-false p q e, ltb-false q p f)
