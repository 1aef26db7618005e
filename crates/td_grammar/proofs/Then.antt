-- One production and after it another.
use Rattle.std.proofs.Common.{◌≡◌, List, [], ◌∷◌, ◌++◌, refl, sym, ap, subst, ◌∙◌, append_assoc, ◌⊎◌, inl, inr, arith}
use Rattle.std.proofs.lemmas.List.{length-append}
use Rattle.td_ast.specs.declared.token.Token.{Token}
use Rattle.td_ast.specs.Kinds.{number_of_kind}
use Rattle.td_grammar.specs.Spelling.{Begins}
use Rattle.td_grammar.specs.Reading.{Got, Bad, Deep, ◌and_then◌}
use Rattle.td_grammar.specs.Grammar.{Grammar, ◌then◌}
use Rattle.td_grammar.proofs.Tools.{Stops, bind_got, bind_bad, bind_deep, join, nothing_left, got_value, got_rest, apart_at}
use Rattle.td_grammar.proofs.Exact.{IsRead, IsDeep, IsExact, IsApart, keeps_first, passed_begins}
use Rattle.td_grammar.proofs.Led.{IsLed, led_of, last_stops, seam_stops, then_led}

module _ {A B : Type 0} (g : Grammar A) (h : Grammar B) (G : IsExact g) (H : IsExact h) (apart : IsApart g h) where
  then_got : (tokens : List Token) (x : A × B) (rest : List Token) → (g then h).reader.read tokens ≡ Got x rest → (mid : List Token) × (g.reader.read tokens ≡ Got x.0 mid) × (h.reader.read mid ≡ Got x.1 rest)
  then_got tokens x rest e =
      let p = bind_got (g.reader.read tokens) (λ a mid. h.reader.read mid and_then λ b after. Got (a, b) after) x rest e in
      let q = bind_got (h.reader.read p.1) (λ b after. Got (p.0, b) after) x rest p.3 in
      let made : A × B = (p.0, q.0) in
      let same : made ≡ x = got_value made x q.1 rest q.3 in
      let after : q.1 ≡ rest = got_rest made x q.1 rest q.3 in
      let left : p.0 ≡ x.0 = ap (λ (y : A × B). y.0) same in
      let right : q.0 ≡ x.1 = ap (λ (y : A × B). y.1) same in
      (p.1, p.2 ∙ ap (λ (a : A). Got a p.1) left, subst (λ (l : List Token). h.reader.read p.1 ≡ Got x.1 l) after (subst (λ (b : B). h.reader.read p.1 ≡ Got b q.1) right q.2))

  then_bad : (tokens rest : List Token) → (g then h).reader.read tokens ≡ Bad rest → (g.reader.read tokens ≡ Bad rest) ⊎ ((a : A) × (mid : List Token) × (g.reader.read tokens ≡ Got a mid) × (h.reader.read mid ≡ Bad rest))
  then_bad tokens rest e =
      elim (bind_bad (g.reader.read tokens) (λ a mid. h.reader.read mid and_then λ b after. Got (a, b) after) rest e) [
        | inl bad ↦ inl bad
        | inr p ↦ elim (bind_bad (h.reader.read p.1) (λ b after. Got (p.0, b) after) rest p.3) [
          | inl bad ↦ inr (p.0, p.1, p.2, bad)
          | inr q ↦ absurd (cc (q.3))
        ]
      ]

  then_takes : (tokens : List Token) (x : A × B) (rest : List Token) → (g then h).reader.read tokens ≡ Got x rest → (front : List Token) × (tokens ≡ front ++ rest) × (g then h).Spells x front
  then_takes tokens x rest e =
      let p = then_got tokens x rest e in
      let t = G.takes tokens x.0 p.0 p.1 in
      let u = H.takes p.0 x.1 rest p.2 in
      (t.0 ++ u.0, join tokens t.0 p.0 u.0 rest t.1 u.1, (t.0, u.0, refl, t.2, u.2))

  then_again : (x : A × B) (front rest : List Token) → (g then h).Spells x front → Stops (g then h).reader.goes_on rest → IsRead x rest ((g then h).reader.read (front ++ rest))
  then_again x front rest s stops =
      let u = s.0 in
      let v = s.1 in
      let regrouped : front ++ rest ≡ u ++ (v ++ rest) = rw (s.2) (append_assoc u v rest) in
      elim (G.again x.0 u (v ++ rest) s.3 (seam_stops g h (led_of H) apart x.1 v rest s.4 stops)) [
        | inl got ↦
            let first : g.reader.read (front ++ rest) ≡ Got x.0 (v ++ rest) = rw regrouped got in
            elim (H.again x.1 v rest s.4 (last_stops g h rest stops)) [
              | inl second ↦ inl (rw (first, second) refl)
              | inr over ↦ let second = over.1 in inr (over.0, rw (first, second) refl, over.2)
            ]
        | inr over ↦ let first : g.reader.read (front ++ rest) ≡ Deep over.0 = rw regrouped over.1 in inr (over.0, rw first refl, omega (arith, over.2, length-append v rest))
      ]

  then_ends : (tokens rest : List Token) → (g then h).reader.read tokens ≡ Bad rest → (front : List Token) × (tokens ≡ front ++ rest) × Begins (g then h).Spells front
  then_ends tokens rest e =
      elim (then_bad tokens rest e) [
        | inl bad ↦
            let t = G.ends tokens rest bad in
            (t.0, t.1, ((t.2.0, H.some.0), t.2.1 ++ H.some.1, (t.0 ++ t.2.1, H.some.1, sym (append_assoc t.0 t.2.1 H.some.1), t.2.2, H.some.2)))
        | inr p ↦
            let t = G.takes tokens p.0 p.1 p.2 in
            let u = H.ends p.1 rest p.3 in
            (t.0 ++ u.0, join tokens t.0 p.1 u.0 rest t.1 u.1, ((p.0, u.2.0), u.2.1, (t.0, u.0 ++ u.2.1, append_assoc t.0 u.0 u.2.1, t.2, u.2.2)))
      ]

  then_keeps_got : (front : List Token) (t : Token) (r s : List Token) (x : A × B) → (g then h).reader.read (front ++ t ∷ r) ≡ Got x (t ∷ r) → (g then h).reader.read (front ++ t ∷ s) ≡ Got x (t ∷ s)
  then_keeps_got front t r s x e =
      let p = then_got (front ++ t ∷ r) x (t ∷ r) e in
      let u = H.takes p.0 x.1 (t ∷ r) p.2 in
      let first = keeps_first g G front t r s x.0 p.0 u.0 p.1 u.1 in
      let second : h.reader.read (u.0 ++ t ∷ s) ≡ Got x.1 (t ∷ s) = H.keeps_got u.0 t r s x.1 (subst (λ (l : List Token). h.reader.read l ≡ Got x.1 (t ∷ r)) u.1 p.2) in
      rw (first, second) refl

  then_keeps_bad : (front : List Token) (t : Token) (r s : List Token) → (g then h).reader.read (front ++ t ∷ r) ≡ Bad (t ∷ r) → (g then h).reader.read (front ++ t ∷ s) ≡ Bad (t ∷ s)
  then_keeps_bad front t r s e =
      elim (then_bad (front ++ t ∷ r) (t ∷ r) e) [
        | inl bad ↦ let first : g.reader.read (front ++ t ∷ s) ≡ Bad (t ∷ s) = G.keeps_bad front t r s bad in rw first refl
        | inr p ↦
            let u = H.ends p.1 (t ∷ r) p.3 in
            let first = keeps_first g G front t r s p.0 p.1 u.0 p.2 u.1 in
            let second : h.reader.read (u.0 ++ t ∷ s) ≡ Bad (t ∷ s) = H.keeps_bad u.0 t r s (subst (λ (l : List Token). h.reader.read l ≡ Bad (t ∷ r)) u.1 p.3) in
            rw (first, second) refl
      ]

  then_was_deep : (tokens rest : List Token) → (g then h).reader.read tokens ≡ Deep rest → (g.reader.read tokens ≡ Deep rest) ⊎ ((a : A) × (mid : List Token) × (g.reader.read tokens ≡ Got a mid) × (h.reader.read mid ≡ Deep rest))
  then_was_deep tokens rest e =
      elim (bind_deep (g.reader.read tokens) (λ a mid. h.reader.read mid and_then λ b after. Got (a, b) after) rest e) [
        | inl over ↦ inl over
        | inr p ↦ elim (bind_deep (h.reader.read p.1) (λ b after. Got (p.0, b) after) rest p.3) [
          | inl over ↦ inr (p.0, p.1, p.2, over)
          | inr q ↦ absurd (cc (q.3))
        ]
      ]

  then_deep : (tokens rest : List Token) → (g then h).reader.read tokens ≡ Deep rest → (front : List Token) × (t : Token) × (r : List Token) × (tokens ≡ front ++ t ∷ r) × (rest ≡ t ∷ r) × (g then h).Passes (front ++ t ∷ [])
  then_deep tokens rest e =
      elim (then_was_deep tokens rest e) [
        | inl over ↦ let p = G.deep tokens rest over in (p.0, p.1, p.2, p.3, p.4, inl p.5)
        | inr q ↦
            let t = G.takes tokens q.0 q.1 q.2 in
            let p = H.deep q.1 rest q.3 in
            (t.0 ++ p.0, p.1, p.2, join tokens t.0 q.1 p.0 (p.1 ∷ p.2) t.1 p.3, p.4, inr (q.0, t.0, p.0 ++ p.1 ∷ [], append_assoc t.0 p.0 (p.1 ∷ []), t.2, p.5))
      ]

  passed_stops : (v rest : List Token) → h.Passes v → Stops g.reader.goes_on (v ++ rest)
  passed_stops [] rest p = absurd (H.not_nothing p)
  passed_stops (t ∷ v) rest p = apart_at h.reader.begins g.reader.goes_on (number_of_kind t.kind) apart (passed_begins h H t v p)

  then_passes : (front rest : List Token) → (g then h).Passes front → IsDeep rest ((g then h).reader.read (front ++ rest))
  then_passes front rest (inl p) = let over = G.passes front rest p in let first = over.1 in (over.0, rw first refl, over.2)
  then_passes front rest (inr s) =
      let u = s.1 in
      let v = s.2 in
      let regrouped : front ++ rest ≡ u ++ (v ++ rest) = rw (s.3) (append_assoc u v rest) in
      elim (G.again s.0 u (v ++ rest) s.4 (passed_stops v rest s.5)) [
        | inl got ↦
            let first : g.reader.read (front ++ rest) ≡ Got s.0 (v ++ rest) = rw regrouped got in
            let over = H.passes v rest s.5 in
            let second = over.1 in
            (over.0, rw (first, second) refl, over.2)
        | inr over ↦ let first : g.reader.read (front ++ rest) ≡ Deep over.0 = rw regrouped over.1 in (over.0, rw first refl, omega (arith, over.2, length-append v rest))
      ]

  then_passed : (front : List Token) → (g then h).Passes front → Begins (g then h).Spells front
  then_passed front (inl p) = let b = G.passed front p in ((b.0, H.some.0), b.1 ++ H.some.1, (front ++ b.1, H.some.1, sym (append_assoc front b.1 H.some.1), b.2, H.some.2))
  then_passed front (inr s) =
      let b = H.passed s.2 s.5 in
      ((s.0, b.0), b.1, (s.1, s.2 ++ b.1, ap (λ (l : List Token). l ++ b.1) s.3 ∙ append_assoc s.1 s.2 b.1, s.4, b.2))

  then_not_nothing : (g then h).Passes [] → ⊥
  then_not_nothing (inl p) = G.not_nothing p
  then_not_nothing (inr s) = H.not_nothing (subst (λ (l : List Token). h.Passes l) (nothing_left s.1 s.2 s.3).1 s.5)

  led : IsLed (g then h)
  led = then_led g h (led_of G) (led_of H)

  pub then_exact : IsExact (g then h)
  then_exact = record {
    takes = then_takes;
    again = then_again;
    deep = then_deep;
    passes = then_passes;
    passed = then_passed;
    not_nothing = then_not_nothing;
    begun = led.begun;
    full = led.full;
    ends = then_ends;
    keeps_got = then_keeps_got;
    keeps_bad = then_keeps_bad;
    some = ((G.some.0, H.some.0), G.some.1 ++ H.some.1, (G.some.1, H.some.1, refl, G.some.2, H.some.2));
  }
