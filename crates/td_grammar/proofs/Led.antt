-- The first token of a spelling is of the kinds that begin one, and only where a spelling may be empty has it no token. Cited by other crates.
use Rattle.std.proofs.Common.{◌≡◌, Bool, true, false, cond, List, [], ◌∷◌, ◌++◌, Option, Some, None, refl, sym, subst, inl, inr}
use Rattle.td_ast.specs.declared.token.Token.{Token}
use Rattle.td_ast.specs.Kinds.{number_of_kind}
use Rattle.td_grammar.specs.Sets.{comes, member}
use Rattle.td_grammar.specs.Grammar.{Grammar, ◌then◌, ◌making◌, maybe, all_of, ◌or◌}
use Rattle.td_grammar.proofs.Tools.{Stops, nothing_left, member_left, member_right, apart_at, stops_left, stops_right}
use Rattle.td_grammar.proofs.Exact.{IsExact, IsApart}

pub record IsLed {A : Type 0} (g : Grammar A) : Type 0 where
  pub begun : (a : A) (t : Token) (more : List Token) → g.Spells a (t ∷ more) → member g.reader.begins (number_of_kind t.kind) ≡ true
  pub full : (a : A) → g.Spells a [] → g.reader.may_be_empty ≡ true

pub led_of : {A : Type 0} {g : Grammar A} → IsExact g → IsLed g
led_of G = record { begun = G.begun; full = G.full }

-- ---- one after the other

module _ {A B : Type 0} (g : Grammar A) (h : Grammar B) where
  last_by : (c : Bool) (rest : List Token) → Stops (cond c (h.reader.goes_on ++ g.reader.goes_on) h.reader.goes_on) rest → Stops h.reader.goes_on rest
  last_by true rest s = stops_left h.reader.goes_on g.reader.goes_on rest s
  last_by false rest s = s

  -- what doesn't go on with both doesn't go on with the second
  pub last_stops : (rest : List Token) → Stops (g then h).reader.goes_on rest → Stops h.reader.goes_on rest
  last_stops rest s = last_by h.reader.may_be_empty rest s

  -- nor does the second, with what is after it, go on with the first
  pub seam_stops : IsLed h → IsApart g h → (b : B) (v rest : List Token) → h.Spells b v → Stops (g then h).reader.goes_on rest → Stops g.reader.goes_on (v ++ rest)
  seam_stops H apart b [] rest q stops = stops_right h.reader.goes_on g.reader.goes_on rest (subst (λ c. Stops (cond c (h.reader.goes_on ++ g.reader.goes_on) h.reader.goes_on) rest) (H.full b q) stops)
  seam_stops H apart b (t ∷ v) rest q stops = apart_at h.reader.begins g.reader.goes_on (number_of_kind t.kind) apart (H.begun b t v q)

  begins_by : (c : Bool) (t : Token) → member g.reader.begins (number_of_kind t.kind) ≡ true → member (cond c (g.reader.begins ++ h.reader.begins) g.reader.begins) (number_of_kind t.kind) ≡ true
  begins_by true t e = member_left g.reader.begins h.reader.begins (number_of_kind t.kind) e
  begins_by false t e = e

  begins_at : IsLed g → IsLed h → (x : A × B) (t : Token) (more u v : List Token) → t ∷ more ≡ u ++ v → g.Spells x.0 u → h.Spells x.1 v → member (g then h).reader.begins (number_of_kind t.kind) ≡ true
  begins_at G H x t more [] v e p q =
      let empty : g.reader.may_be_empty ≡ true = G.full x.0 p in
      rw empty (member_right g.reader.begins h.reader.begins (number_of_kind t.kind) (H.begun x.1 t more (subst (λ (l : List Token). h.Spells x.1 l) (sym e) q)))
  begins_at G H x t more (y ∷ u) v e p q = let same : t ≡ y = cc in begins_by g.reader.may_be_empty t (rw same (G.begun x.0 y u p))

  then_full : IsLed g → IsLed h → (x : A × B) → (g then h).Spells x [] → (g then h).reader.may_be_empty ≡ true
  then_full G H x s =
      let none = nothing_left s.0 s.1 s.2 in
      let left : g.reader.may_be_empty ≡ true = G.full x.0 (subst (λ (l : List Token). g.Spells x.0 l) none.0 s.3) in
      let right : h.reader.may_be_empty ≡ true = H.full x.1 (subst (λ (l : List Token). h.Spells x.1 l) none.1 s.4) in
      rw (left, right) refl

  pub then_led : IsLed g → IsLed h → IsLed (g then h)
  then_led G H = record { begun = λ x t more s. begins_at G H x t more s.0 s.1 s.2 s.3 s.4; full = then_full G H }

-- ---- a value made of another; one or none

module _ {A : Type 0} (g : Grammar A) (G : IsLed g) where
  pub making_led : {B : Type 0} (f : A → B) → IsLed (g making f)
  making_led f = record { begun = λ b t more s. G.begun s.0 t more s.2; full = λ b s. G.full s.0 s.2 }

  maybe_begun : (o : Option A) (t : Token) (more : List Token) → (maybe g).Spells o (t ∷ more) → member g.reader.begins (number_of_kind t.kind) ≡ true
  maybe_begun None t more s = absurd cc
  maybe_begun (Some a) t more s = G.begun a t more s

  pub maybe_led : IsLed (maybe g)
  maybe_led = record { begun = maybe_begun; full = λ o s. refl }

-- ---- any number of them

module _ {A : Type 0} (g : Grammar A) (G : IsLed g) (solid : g.reader.may_be_empty ≡ false) where
  pub spelled_comes : (a : A) (u rest : List Token) → g.Spells a u → comes g.reader.begins (u ++ rest) ≡ true
  spelled_comes a [] rest s = absurd (cc (G.full a s, solid))
  spelled_comes a (t ∷ u) rest s = G.begun a t u s

  -- none stands where no token comes that begins one
  pub not_here : (a : A) (rest v more : List Token) → g.Spells a v → rest ≡ v ++ more → comes g.reader.begins rest ≡ false → ⊥
  not_here a rest v more s e none = cc (subst (λ (l : List Token). comes g.reader.begins l ≡ true) (sym e) (spelled_comes a v more s), none)

  pub all_begun : (xs : List A) (t : Token) (others : List Token) → (all_of g).Spells xs (t ∷ others) → member g.reader.begins (number_of_kind t.kind) ≡ true
  all_begun [] t others s = absurd cc
  all_begun (x ∷ xs) t others s = subst (λ (l : List Token). comes g.reader.begins l ≡ true) (sym s.2) (spelled_comes x s.0 s.1 s.3)

  pub all_led : IsLed (all_of g)
  all_led = record { begun = all_begun; full = λ xs s. refl }

  -- more of them, with what is after them, don't go on with one
  pub all_seam : IsApart g g → (xs : List A) (v rest : List Token) → (all_of g).Spells xs v → Stops (all_of g).reader.goes_on rest → Stops g.reader.goes_on (v ++ rest)
  all_seam apart xs [] rest s stops = stops_right g.reader.begins g.reader.goes_on rest stops
  all_seam apart xs (t ∷ v) rest s stops = apart_at g.reader.begins g.reader.goes_on (number_of_kind t.kind) apart (all_begun xs t v s)

-- ---- the one or the other

module _ {A : Type 0} (g h : Grammar A) (G : IsLed g) (H : IsLed h) (g_solid : g.reader.may_be_empty ≡ false) (h_solid : h.reader.may_be_empty ≡ false) where
  or_begun : (a : A) (t : Token) (others : List Token) → (g or h).Spells a (t ∷ others) → member (g.reader.begins ++ h.reader.begins) (number_of_kind t.kind) ≡ true
  or_begun a t others (inl s) = member_left g.reader.begins h.reader.begins (number_of_kind t.kind) (G.begun a t others s)
  or_begun a t others (inr s) = member_right g.reader.begins h.reader.begins (number_of_kind t.kind) (H.begun a t others s)

  or_full : (a : A) → (g or h).Spells a [] → (g or h).reader.may_be_empty ≡ true
  or_full a (inl s) = absurd (cc (G.full a s, g_solid))
  or_full a (inr s) = absurd (cc (H.full a s, h_solid))

  pub or_led : IsLed (g or h)
  or_led = record { begun = or_begun; full = or_full }
