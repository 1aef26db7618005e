-- All of the tokens. Cited by other crates.
use Rattle.std.proofs.Common.{◌≡◌, ℕ, suc, ◌+◌, ◌-◌, take, ◌≤◌, List, [], ◌∷◌, ◌++◌, length, refl, sym, ap, subst, ◌∙◌, append_assoc, arith, inl, inr}
use Rattle.std.proofs.Math.Seq.{take-length}
use Rattle.std.proofs.lemmas.List.{append-nil, length-append, take_at}
use Rattle.td_ast.specs.declared.token.Token.{Token}
use Rattle.td_grammar.specs.Spelling.{Begins, IsFirstRefused}
use Rattle.td_grammar.specs.Reading.{Outcome, Got, Bad, Deep, read_whole, ended}
use Rattle.td_grammar.specs.Grammar.{Grammar}
use Rattle.td_grammar.proofs.Tools.{bind_got, bind_bad, bind_deep, got_value}
use Rattle.td_grammar.proofs.Exact.{IsRead, IsDeep, IsExact}

-- The tokens up to rest begin some value's spelling. With the first of rest they begin none, or where there is none,
-- they are no spelling.
abbrev pub IsNone : {A : Type 0} → (A → List Token → Type 0) → List Token → List Token → Type 0
IsNone {A} Spells front [] = (a : A) → Spells a front → ⊥
IsNone Spells front (t ∷ rest) = Begins Spells (front ++ t ∷ []) → ⊥

abbrev pub IsRefusedAt : {A : Type 0} → (A → List Token → Type 0) → List Token → List Token → Type 0
IsRefusedAt Spells tokens rest = (front : List Token) × (tokens ≡ front ++ rest) × Begins Spells front × IsNone Spells front rest

ended_got : {A : Type 0} (a b : A) (mid rest : List Token) → ended a mid ≡ Got b rest → (a ≡ b) × (mid ≡ [])
ended_got a b [] rest e = (got_value a b [] rest e, refl)
ended_got a b (t ∷ mid) rest e = absurd cc

ended_bad : {A : Type 0} (a : A) (mid rest : List Token) → ended a mid ≡ Bad rest → (t : Token) × (r : List Token) × (mid ≡ t ∷ r) × (rest ≡ t ∷ r)
ended_bad a [] rest e = absurd cc
ended_bad a (t ∷ mid) rest e = (t, mid, refl, sym cc)

module _ {A : Type 0} (g : Grammar A) (G : IsExact g) where
  spelled_is_read : (b : A) (tokens : List Token) → g.Spells b tokens → IsRead b [] (g.reader.read tokens)
  spelled_is_read b tokens s = subst (λ (l : List Token). IsRead b [] (g.reader.read l)) (append-nil tokens) (G.again b tokens [] s refl)

  -- a spelling that goes on with this token and more is read whole
  not_longer : (front : List Token) (t : Token) (more : List Token) (b : A) → g.Spells b ((front ++ t ∷ []) ++ more) → IsRead b [] (g.reader.read (front ++ t ∷ more))
  not_longer front t more b s = spelled_is_read b (front ++ t ∷ more) (subst (λ (l : List Token). g.Spells b l) (append_assoc front (t ∷ []) more) s)

  not_bad : (b : A) (o : Outcome A) (rest : List Token) → IsRead b [] o → o ≡ Bad rest → ⊥
  not_bad b o rest (inl e) h = cc
  not_bad b o rest (inr over) h = cc (over.1, h)

  not_more : (b : A) (o : Outcome A) (a : A) (t : Token) (rest : List Token) → IsRead b [] o → o ≡ Got a (t ∷ rest) → ⊥
  not_more b o a t rest (inl e) h = cc
  not_more b o a t rest (inr over) h = cc (over.1, h)

  -- what is read is spelled
  pub whole_found : (tokens : List Token) (a : A) (rest : List Token) → read_whole g.reader tokens ≡ Got a rest → g.Spells a tokens
  whole_found tokens a rest e =
      let p = bind_got (g.reader.read tokens) (λ x l. ended x l) a rest e in
      let q = ended_got p.0 a p.1 rest p.3 in
      let t = G.takes tokens p.0 p.1 p.2 in
      let same : tokens ≡ t.0 = t.1 ∙ ap (λ (l : List Token). t.0 ++ l) q.1 ∙ append-nil t.0 in
      subst (λ (x : A). g.Spells x tokens) q.0 (subst (λ (l : List Token). g.Spells p.0 l) (sym same) t.2)

  -- what is spelled is read, or a limit is passed
  pub whole_only : (tokens : List Token) (a : A) → g.Spells a tokens → IsRead a [] (read_whole g.reader tokens)
  whole_only tokens a s =
      elim (spelled_is_read a tokens s) [
        | inl e ↦ let one : g.reader.read tokens ≡ Got a [] = e in inl (rw one refl)
        | inr over ↦ let one = over.1 in inr (over.0, rw one refl, over.2)
      ]

  none_after_bad : (front rest : List Token) → g.reader.read (front ++ rest) ≡ Bad rest → IsNone g.Spells front rest
  none_after_bad front [] e = λ b s. not_bad b (g.reader.read front) [] (spelled_is_read b front s) (subst (λ (l : List Token). g.reader.read l ≡ Bad []) (append-nil front) e)
  none_after_bad front (t ∷ r) e = λ (b, more, s). not_bad b (g.reader.read (front ++ t ∷ more)) (t ∷ more) (not_longer front t more b s) (G.keeps_bad front t r more e)

  -- where reading stops, the token is refused
  pub whole_refused : (tokens rest : List Token) → read_whole g.reader tokens ≡ Bad rest → IsRefusedAt g.Spells tokens rest
  whole_refused tokens rest e =
      elim (bind_bad (g.reader.read tokens) (λ x l. ended x l) rest e) [
        | inl bad ↦
            let t = G.ends tokens rest bad in
            (t.0, t.1, t.2, none_after_bad t.0 rest (subst (λ (l : List Token). g.reader.read l ≡ Bad rest) t.1 bad))
        | inr p ↦
            let q = ended_bad p.0 p.1 rest p.3 in
            let t = G.takes tokens p.0 p.1 p.2 in
            let whole : tokens ≡ t.0 ++ q.0 ∷ q.1 = t.1 ∙ ap (λ (l : List Token). t.0 ++ l) q.2 in
            let was : g.reader.read (t.0 ++ q.0 ∷ q.1) ≡ Got p.0 (q.0 ∷ q.1) = subst (λ (l : List Token). g.reader.read l ≡ Got p.0 (q.0 ∷ q.1)) whole (subst (λ (l : List Token). g.reader.read tokens ≡ Got p.0 l) q.2 p.2) in
            let none : IsNone g.Spells t.0 (q.0 ∷ q.1) = λ (b, more, s). not_more b (g.reader.read (t.0 ++ q.0 ∷ more)) p.0 q.0 more (not_longer t.0 q.0 more b s) (G.keeps_got t.0 q.0 q.1 more p.0 was) in
            let stands : Begins g.Spells t.0 = (p.0, [], subst (λ (l : List Token). g.Spells p.0 l) (sym (append-nil t.0)) t.2) in
            (t.0, whole ∙ ap (λ (l : List Token). t.0 ++ l) (sym q.3), stands, subst (λ (l : List Token). IsNone g.Spells t.0 l) (sym q.3) none)
      ]

  ended_not_deep : (a : A) (mid rest : List Token) → ended a mid ≡ Deep rest → ⊥
  ended_not_deep a [] rest e = cc
  ended_not_deep a (t ∷ mid) rest e = cc

  -- where reading says so, the token passes a limit
  pub whole_deep : (tokens rest : List Token) → read_whole g.reader tokens ≡ Deep rest → (front : List Token) × (t : Token) × (r : List Token) × (tokens ≡ front ++ t ∷ r) × (rest ≡ t ∷ r) × g.Passes (front ++ t ∷ [])
  whole_deep tokens rest e =
      elim (bind_deep (g.reader.read tokens) (λ x l. ended x l) rest e) [
        | inl over ↦ G.deep tokens rest over
        | inr p ↦ absurd (ended_not_deep p.0 p.1 rest p.3)
      ]

  -- where a token passes a limit, reading stops there or sooner
  pub whole_passes : (front rest : List Token) → g.Passes front → IsDeep rest (read_whole g.reader (front ++ rest))
  whole_passes front rest p = let over = G.passes front rest p in let one = over.1 in (over.0, rw one refl, over.2)

  -- the place of the refused token, counted from the front
  pub first_refused : (tokens rest : List Token) → IsRefusedAt g.Spells tokens rest → IsFirstRefused g.Spells tokens (length tokens - length rest)
  first_refused tokens rest h = by_place h.0 rest (length tokens - length rest) h.1 (rw (h.1) (omega (arith, length-append h.0 rest))) h.2 h.3
    where
      by_place : (front after : List Token) (place : ℕ) → tokens ≡ front ++ after → place ≡ length front → Begins g.Spells front → IsNone g.Spells front after → IsFirstRefused g.Spells tokens place
      by_place front [] place e n b none =
          let same : tokens ≡ front = e ∙ append-nil front in
          let all : take place tokens ≡ front = rw (n, same) (take-length front) in
          record {
            within = rw (n, same) (omega arith);
            before = subst (λ (l : List Token). Begins g.Spells l) (sym all) b;
            there = λ lt b'. absurd (omega (arith, n, ap length same));
            whole = λ end a s. none a (subst (λ (l : List Token). g.Spells a l) same s);
          }
      by_place front (t ∷ after) place e n b none =
          let long : length tokens ≡ length front + suc (length after) = ap length e ∙ length-append front (t ∷ after) in
          let all : take place tokens ≡ front = rw (e) (take_at front (t ∷ after) place (sym n)) in
          let one : take (place + 1) tokens ≡ front ++ t ∷ [] = rw (e, ← append_assoc front (t ∷ []) after) (take_at (front ++ t ∷ []) after (place + 1) (length-append front (t ∷ []) ∙ omega arith)) in
          record {
            within = omega arith;
            before = subst (λ (l : List Token). Begins g.Spells l) (sym all) b;
            there = λ lt b'. none (subst (λ (l : List Token). Begins g.Spells l) one b');
            whole = λ end a s. absurd (omega arith);
          }

  -- no more tokens are left than there were
  pub rest_within : (tokens rest : List Token) → read_whole g.reader tokens ≡ Bad rest → length rest ≤ length tokens
  rest_within tokens rest e = let h = whole_refused tokens rest e in omega (arith, ap length h.1, length-append h.0 rest)
