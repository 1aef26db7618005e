-- The one or the other, by a test of the first token.
use Rattle.std.proofs.Common.{◌≡◌, Bool, true, false, cond, List, [], ◌∷◌, ◌++◌, refl, sym, inl, inr}
use Rattle.td_ast.specs.declared.token.Token.{Token}
use Rattle.td_grammar.specs.Spelling.{Begins}
use Rattle.td_grammar.specs.Reading.{Got, Bad, Deep, first_passes}
use Rattle.td_grammar.specs.Grammar.{Grammar, either_by, ◌or◌}
use Rattle.td_grammar.proofs.Tools.{Stops, stops_left, stops_right}
use Rattle.td_grammar.proofs.Exact.{IsRead, IsDeep, IsExact}
use Rattle.td_grammar.proofs.Led.{IsLed, led_of, or_led}
use Rattle.td_grammar.proofs.Unambiguous.{IsOne}

pub first_same : (test : Token → Bool) (front : List Token) (t : Token) (r s : List Token) → first_passes test (front ++ t ∷ r) ≡ first_passes test (front ++ t ∷ s)
first_same test [] t r s = refl
first_same test (x ∷ front) t r s = refl

-- what is spelled begins with a token that passes the test, or with one that doesn't
abbrev pub IsTested : {A : Type 0} → (Token → Bool) → Bool → Grammar A → Type 0
IsTested {A} test b g = (a : A) (t : Token) (more : List Token) → g.Spells a (t ∷ more) → test t ≡ b

module _ {A : Type 0} (test : Token → Bool) (g h : Grammar A) (G : IsExact g) (H : IsExact h) (g_solid : g.reader.may_be_empty ≡ false) (h_solid : h.reader.may_be_empty ≡ false) (passing : IsTested test true g) (failing : IsTested test false h) where
  tested_takes : (b : Bool) (tokens : List Token) (a : A) (rest : List Token) → cond b (g.reader.read tokens) (h.reader.read tokens) ≡ Got a rest → (front : List Token) × (tokens ≡ front ++ rest) × (g or h).Spells a front
  tested_takes true tokens a rest e = let t = G.takes tokens a rest e in (t.0, t.1, inl t.2)
  tested_takes false tokens a rest e = let t = H.takes tokens a rest e in (t.0, t.1, inr t.2)

  tested_again : (a : A) (front rest : List Token) → (g or h).Spells a front → Stops (g or h).reader.goes_on rest → IsRead a rest ((either_by test g h).reader.read (front ++ rest))
  tested_again a [] rest (inl s) stops = absurd (cc (G.full a s, g_solid))
  tested_again a [] rest (inr s) stops = absurd (cc (H.full a s, h_solid))
  tested_again a (t ∷ front) rest (inl s) stops =
      let passes : test t ≡ true = passing a t front s in
      rw passes (G.again a (t ∷ front) rest s (stops_left g.reader.goes_on h.reader.goes_on rest stops))
  tested_again a (t ∷ front) rest (inr s) stops =
      let passes : test t ≡ false = failing a t front s in
      rw passes (H.again a (t ∷ front) rest s (stops_right g.reader.goes_on h.reader.goes_on rest stops))

  tested_ends : (b : Bool) (tokens rest : List Token) → cond b (g.reader.read tokens) (h.reader.read tokens) ≡ Bad rest → (front : List Token) × (tokens ≡ front ++ rest) × Begins (g or h).Spells front
  tested_ends true tokens rest e = let t = G.ends tokens rest e in (t.0, t.1, (t.2.0, t.2.1, inl t.2.2))
  tested_ends false tokens rest e = let t = H.ends tokens rest e in (t.0, t.1, (t.2.0, t.2.1, inr t.2.2))

  tested_got : (b : Bool) (front : List Token) (t : Token) (r s : List Token) (a : A) → cond b (g.reader.read (front ++ t ∷ r)) (h.reader.read (front ++ t ∷ r)) ≡ Got a (t ∷ r) → cond b (g.reader.read (front ++ t ∷ s)) (h.reader.read (front ++ t ∷ s)) ≡ Got a (t ∷ s)
  tested_got true front t r s a e = G.keeps_got front t r s a e
  tested_got false front t r s a e = H.keeps_got front t r s a e

  tested_bad : (b : Bool) (front : List Token) (t : Token) (r s : List Token) → cond b (g.reader.read (front ++ t ∷ r)) (h.reader.read (front ++ t ∷ r)) ≡ Bad (t ∷ r) → cond b (g.reader.read (front ++ t ∷ s)) (h.reader.read (front ++ t ∷ s)) ≡ Bad (t ∷ s)
  tested_bad true front t r s e = G.keeps_bad front t r s e
  tested_bad false front t r s e = H.keeps_bad front t r s e

  tested_deep : (b : Bool) (tokens rest : List Token) → cond b (g.reader.read tokens) (h.reader.read tokens) ≡ Deep rest → (front : List Token) × (t : Token) × (r : List Token) × (tokens ≡ front ++ t ∷ r) × (rest ≡ t ∷ r) × (g or h).Passes (front ++ t ∷ [])
  tested_deep true tokens rest e = let p = G.deep tokens rest e in (p.0, p.1, p.2, p.3, p.4, inl p.5)
  tested_deep false tokens rest e = let p = H.deep tokens rest e in (p.0, p.1, p.2, p.3, p.4, inr p.5)

  tested_passes : (front rest : List Token) → (g or h).Passes front → IsDeep rest ((either_by test g h).reader.read (front ++ rest))
  tested_passes [] rest (inl p) = absurd (G.not_nothing p)
  tested_passes [] rest (inr p) = absurd (H.not_nothing p)
  tested_passes (t ∷ front) rest (inl p) =
      let b = G.passed (t ∷ front) p in
      let passes : test t ≡ true = passing b.0 t (front ++ b.1) b.2 in
      rw passes (G.passes (t ∷ front) rest p)
  tested_passes (t ∷ front) rest (inr p) =
      let b = H.passed (t ∷ front) p in
      let passes : test t ≡ false = failing b.0 t (front ++ b.1) b.2 in
      rw passes (H.passes (t ∷ front) rest p)

  tested_passed : (front : List Token) → (g or h).Passes front → Begins (g or h).Spells front
  tested_passed front (inl p) = let b = G.passed front p in (b.0, b.1, inl b.2)
  tested_passed front (inr p) = let b = H.passed front p in (b.0, b.1, inr b.2)

  tested_not_nothing : (g or h).Passes [] → ⊥
  tested_not_nothing (inl p) = G.not_nothing p
  tested_not_nothing (inr p) = H.not_nothing p

  led : IsLed (g or h)
  led = or_led g h (led_of G) (led_of H) g_solid h_solid

  pub tested_exact : IsExact (either_by test g h)
  tested_exact = record {
    takes = λ tokens a rest e. tested_takes (first_passes test tokens) tokens a rest e;
    again = tested_again;
    deep = λ tokens rest e. tested_deep (first_passes test tokens) tokens rest e;
    passes = tested_passes;
    passed = tested_passed;
    not_nothing = tested_not_nothing;
    begun = led.begun;
    full = led.full;
    ends = λ tokens rest e. tested_ends (first_passes test tokens) tokens rest e;
    keeps_got = λ front t r s a e. let head = first_same test front t r s in rw (← head) (tested_got (first_passes test (front ++ t ∷ r)) front t r s a e);
    keeps_bad = λ front t r s e. let head = first_same test front t r s in rw (← head) (tested_bad (first_passes test (front ++ t ∷ r)) front t r s e);
    some = (G.some.0, G.some.1, inl G.some.2);
  }

module _ {A : Type 0} (test : Token → Bool) (g h : Grammar A) (G : IsOne g) (H : IsOne h) (g_solid : g.reader.may_be_empty ≡ false) (h_solid : h.reader.may_be_empty ≡ false) (passing : IsTested test true g) (failing : IsTested test false h) where
  not_both : (a b : A) (u v rest more : List Token) → g.Spells a u → h.Spells b v → u ++ rest ≡ v ++ more → ⊥
  not_both a b [] v rest more s t same = cc (G.led.full a s, g_solid)
  not_both a b u [] rest more s t same = cc (H.led.full b t, h_solid)
  not_both a b (x ∷ u) (y ∷ v) rest more s t same = let first : x ≡ y = cc in cc (passing a x u s, failing b y v t, first)

  tested_only : (a b : A) (u v rest more : List Token) → (g or h).Spells a u → (g or h).Spells b v → u ++ rest ≡ v ++ more → Stops (g or h).reader.goes_on rest → Stops (g or h).reader.goes_on more → (a ≡ b) × (u ≡ v)
  tested_only a b u v rest more (inl s) (inl t) same p q = G.only a b u v rest more s t same (stops_left g.reader.goes_on h.reader.goes_on rest p) (stops_left g.reader.goes_on h.reader.goes_on more q)
  tested_only a b u v rest more (inl s) (inr t) same p q = absurd (not_both a b u v rest more s t same)
  tested_only a b u v rest more (inr s) (inl t) same p q = absurd (not_both b a v u more rest t s (sym same))
  tested_only a b u v rest more (inr s) (inr t) same p q = H.only a b u v rest more s t same (stops_right g.reader.goes_on h.reader.goes_on rest p) (stops_right g.reader.goes_on h.reader.goes_on more q)

  one_led : IsLed (g or h)
  one_led = or_led g h G.led H.led g_solid h_solid

  pub tested_one : IsOne (either_by test g h)
  tested_one = record { led = record { begun = one_led.begun; full = one_led.full }; only = tested_only }
