-- A production is unambiguous: tokens spell at most one value of it. What it spells at the front of some tokens is one value
-- and ends at one place, where nothing that comes next goes on with it. This is said of spellings and of sets of kinds
-- alone: nothing is read, and no limit is looked at.
use Rattle.std.proofs.Common.{◌≡◌, ℕ, true, false, List, [], ◌∷◌, ◌++◌, Option, Some, None, refl, sym, ap, subst, ◌∙◌, append_assoc, inl, inr}
use Rattle.std.proofs.lemmas.List.{append_cancel_left}
use Rattle.td_ast.specs.declared.token.Token.{Token}
use Rattle.td_ast.specs.Kinds.{number_of_kind}
use Rattle.td_grammar.specs.Spelling.{SpellsOne}
use Rattle.td_grammar.specs.Sets.{comes, member}
use Rattle.td_grammar.specs.Grammar.{Grammar, one, ◌then◌, ◌making◌, maybe, ◌or◌, seen_as}
use Rattle.td_grammar.proofs.Sets.{disjoint, covered}
use Rattle.td_grammar.proofs.Tools.{Stops, apart_at, stops_left, stops_right}
use Rattle.td_grammar.proofs.Exact.{IsExact, IsApart}
use Rattle.td_grammar.proofs.Led.{IsLed, led_of, last_stops, seam_stops, then_led, making_led, maybe_led, spelled_comes, not_here, or_led}
use Rattle.td_grammar.proofs.Seen.{covers, stops_less}

pub record IsOne {A : Type 0} (g : Grammar A) : Type 0 where
  pub led : IsLed g
  -- two spellings at the front of the same tokens
  pub only : (a b : A) (u v rest more : List Token) → g.Spells a u → g.Spells b v → u ++ rest ≡ v ++ more → Stops g.reader.goes_on rest → Stops g.reader.goes_on more → (a ≡ b) × (u ≡ v)

-- the same tokens, where each spelling has two parts
pub regroup : (u u₀ u₁ v v₀ v₁ rest more : List Token) → u ≡ u₀ ++ u₁ → v ≡ v₀ ++ v₁ → u ++ rest ≡ v ++ more → u₀ ++ (u₁ ++ rest) ≡ v₀ ++ (v₁ ++ more)
regroup u u₀ u₁ v v₀ v₁ rest more d e same = sym (ap (λ (l : List Token). l ++ rest) d ∙ append_assoc u₀ u₁ rest) ∙ (same ∙ (ap (λ (l : List Token). l ++ more) e ∙ append_assoc v₀ v₁ more))

-- what comes after the same tokens
pub behind : (u v rest more : List Token) → u ≡ v → u ++ rest ≡ v ++ more → rest ≡ more
behind u v rest more e same = append_cancel_left v rest more (sym (ap (λ (l : List Token). l ++ rest) e) ∙ same)

-- ---- one token

module _ {A : Type 0} (kinds : List ℕ) (f : Token → Option A) (G : IsExact (one kinds f)) where
  one_only : (a b : A) (u v rest more : List Token) → SpellsOne f a u → SpellsOne f b v → u ++ rest ≡ v ++ more → (a ≡ b) × (u ≡ v)
  one_only a b u v rest more (t, d, x) (s, e, y) same =
      let whole : t ∷ rest ≡ s ∷ more = sym (ap (λ (l : List Token). l ++ rest) d) ∙ (same ∙ ap (λ (l : List Token). l ++ more) e) in
      let head : t ≡ s = cc in
      (cc (x, y, head), cc (d, e, head))

  pub one_one : IsOne (one kinds f)
  one_one = record { led = led_of G; only = λ a b u v rest more s t same p q. one_only a b u v rest more s t same }

-- ---- one after the other

abbrev pair : {A B : Type 0} → A → B → A × B
pair a b = (a, b)

pair_same : {A B : Type 0} (x y : A × B) → x.0 ≡ y.0 → x.1 ≡ y.1 → x ≡ y
pair_same {A} {B} (a, b) (c, d) e f = ap (λ (x : A). pair x b) e ∙ ap (λ (y : B). pair c y) f

module _ {A B : Type 0} (g : Grammar A) (h : Grammar B) (G : IsOne g) (H : IsOne h) (apart : IsApart g h) where
  then_only : (x y : A × B) (u v rest more : List Token) → (g then h).Spells x u → (g then h).Spells y v → u ++ rest ≡ v ++ more → Stops (g then h).reader.goes_on rest → Stops (g then h).reader.goes_on more → (x ≡ y) × (u ≡ v)
  then_only x y u v rest more (u₀, u₁, d, a, b) (v₀, v₁, e, k, l) same p q =
      let whole = regroup u u₀ u₁ v v₀ v₁ rest more d e same in
      let first = G.only x.0 y.0 u₀ v₀ (u₁ ++ rest) (v₁ ++ more) a k whole (seam_stops g h H.led apart x.1 u₁ rest b p) (seam_stops g h H.led apart y.1 v₁ more l q) in
      let second = H.only x.1 y.1 u₁ v₁ rest more b l (behind u₀ v₀ (u₁ ++ rest) (v₁ ++ more) first.1 whole) (last_stops g h rest p) (last_stops g h more q) in
      (pair_same x y first.0 second.0, cc (d, e, first.1, second.1))

  pub then_one : IsOne (g then h)
  then_one = record { led = then_led g h G.led H.led; only = then_only }

pub sequel_one : {A B : Type 0} {g : Grammar A} {h : Grammar B} → IsOne g → IsOne h → IsApart g h → IsOne (g then h)
sequel_one {A} {B} {g} {h} G H apart = then_one g h G H apart

-- ---- a value made of another

module _ {A B : Type 0} (g : Grammar A) (f : A → B) (G : IsOne g) where
  making_only : (a b : B) (u v rest more : List Token) → (g making f).Spells a u → (g making f).Spells b v → u ++ rest ≡ v ++ more → Stops g.reader.goes_on rest → Stops g.reader.goes_on more → (a ≡ b) × (u ≡ v)
  making_only a b u v rest more (x, d, s) (y, e, t) same p q =
      let parts = G.only x y u v rest more s t same p q in
      (sym d ∙ (ap f parts.0 ∙ e), parts.1)

  pub making_one : IsOne (g making f)
  making_one = record { led = making_led g G.led f; only = making_only }

-- ---- one or none

module _ {A : Type 0} (g : Grammar A) (G : IsOne g) (solid : g.reader.may_be_empty ≡ false) where
  -- where one stands, none can't
  not_none : (a : A) (u v rest more : List Token) → u ≡ [] → g.Spells a v → u ++ rest ≡ v ++ more → Stops (maybe g).reader.goes_on rest → ⊥
  not_none a u v rest more e s same p = not_here g G.led solid a rest v more s (sym (ap (λ (l : List Token). l ++ rest) e) ∙ same) (stops_left g.reader.begins g.reader.goes_on rest p)

  maybe_only : (x y : Option A) (u v rest more : List Token) → (maybe g).Spells x u → (maybe g).Spells y v → u ++ rest ≡ v ++ more → Stops (maybe g).reader.goes_on rest → Stops (maybe g).reader.goes_on more → (x ≡ y) × (u ≡ v)
  maybe_only None None u v rest more s t same p q = (refl, s ∙ sym t)
  maybe_only None (Some b) u v rest more s t same p q = absurd (not_none b u v rest more s t same p)
  maybe_only (Some a) None u v rest more s t same p q = absurd (not_none a v u more rest t s (sym same) q)
  maybe_only (Some a) (Some b) u v rest more s t same p q =
      let parts = G.only a b u v rest more s t same (stops_right g.reader.begins g.reader.goes_on rest p) (stops_right g.reader.begins g.reader.goes_on more q) in
      (ap (λ (x : A). Some x) parts.0, parts.1)

  pub maybe_one : IsOne (maybe g)
  maybe_one = record { led = maybe_led g G.led; only = maybe_only }

-- ---- the one or the other

module _ {A : Type 0} (g h : Grammar A) (G : IsOne g) (H : IsOne h) (g_solid : g.reader.may_be_empty ≡ false) (h_solid : h.reader.may_be_empty ≡ false) (apart : disjoint h.reader.begins g.reader.begins ≡ true) where
  not_both : (a b : A) (u v rest more : List Token) → g.Spells a u → h.Spells b v → u ++ rest ≡ v ++ more → ⊥
  not_both a b u [] rest more s t same = cc (H.led.full b t, h_solid)
  not_both a b u (x ∷ v) rest more s t same =
      let other : member g.reader.begins (number_of_kind x.kind) ≡ false = apart_at h.reader.begins g.reader.begins (number_of_kind x.kind) apart (H.led.begun b x v t) in
      let own : member g.reader.begins (number_of_kind x.kind) ≡ true = subst (λ (l : List Token). comes g.reader.begins l ≡ true) same (spelled_comes g G.led g_solid a u rest s) in
      cc (other, own)

  or_only : (a b : A) (u v rest more : List Token) → (g or h).Spells a u → (g or h).Spells b v → u ++ rest ≡ v ++ more → Stops (g or h).reader.goes_on rest → Stops (g or h).reader.goes_on more → (a ≡ b) × (u ≡ v)
  or_only a b u v rest more (inl s) (inl t) same p q = G.only a b u v rest more s t same (stops_left g.reader.goes_on h.reader.goes_on rest p) (stops_left g.reader.goes_on h.reader.goes_on more q)
  or_only a b u v rest more (inl s) (inr t) same p q = absurd (not_both a b u v rest more s t same)
  or_only a b u v rest more (inr s) (inl t) same p q = absurd (not_both b a v u more rest t s (sym same))
  or_only a b u v rest more (inr s) (inr t) same p q = H.only a b u v rest more s t same (stops_right g.reader.goes_on h.reader.goes_on rest p) (stops_right g.reader.goes_on h.reader.goes_on more q)

  pub or_one : IsOne (g or h)
  or_one = record { led = or_led g h G.led H.led g_solid h_solid; only = or_only }

-- ---- the same relation, or one within it, with sets that are written out; other is read in any way

module _ {A : Type 0} (Spells : A → List Token → Type 0) (begins goes_on : List ℕ) (g other : Grammar A) (G : IsOne g)
    (within : (a : A) (tokens : List Token) → Spells a tokens → g.Spells a tokens)
    (solid : g.reader.may_be_empty ≡ false)
    (begins_less : covered g.reader.begins begins ≡ true)
    (goes_on_less : covered g.reader.goes_on goes_on ≡ true) where
  pub seen_one : IsOne (seen_as Spells begins goes_on other)
  seen_one = record {
    led = record {
      begun = λ a t more s. covers g.reader.begins begins (number_of_kind t.kind) begins_less (G.led.begun a t more (within a (t ∷ more) s));
      full = λ a s. absurd (cc (G.led.full a (within a [] s), solid));
    };
    only = λ a b u v rest more s t same p q.
        G.only a b u v rest more (within a u s) (within b v t) same (stops_less g.reader.goes_on goes_on rest goes_on_less p) (stops_less g.reader.goes_on goes_on more goes_on_less q);
  }
