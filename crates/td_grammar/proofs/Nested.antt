-- What would be nested too deep.
use Rattle.std.proofs.Common.{◌≡◌, ℕ, Bool, true, false, cond, List, [], ◌∷◌, ◌++◌, refl, sym, subst, inr, arith}
use Rattle.std.proofs.lemmas.List.{append_cancel_right, length-append}
use Rattle.td_ast.specs.declared.token.Token.{Token}
use Rattle.td_ast.specs.Kinds.{number_of_kind}
use Rattle.td_grammar.specs.Spelling.{Begins}
use Rattle.td_grammar.specs.Sets.{member, comes}
use Rattle.td_grammar.specs.Reading.{Outcome, Got, Bad, Deep}
use Rattle.td_grammar.specs.Grammar.{too_deep}
use Rattle.td_grammar.proofs.Tools.{comes_same}
use Rattle.td_grammar.proofs.Exact.{IsDeep, IsExact}

module _ {A : Type 0} (Spells : A → List Token → Type 0) (begins : List ℕ)
    (begun : (a : A) (t : Token) (more : List Token) → Spells a (t ∷ more) → member begins (number_of_kind t.kind) ≡ true)
    (full : (a : A) → Spells a [] → ⊥)
    (some : (a : A) × (tokens : List Token) × Spells a tokens)
    (starts : (t : Token) → member begins (number_of_kind t.kind) ≡ true → Begins Spells (t ∷ [])) where
  abbrev answer : Bool → List Token → Outcome A
  answer b tokens = cond b (Deep tokens) (Bad tokens)

  never_got : (b : Bool) (tokens : List Token) (a : A) (rest : List Token) → answer b tokens ≡ Got a rest → ⊥
  never_got true tokens a rest e = cc
  never_got false tokens a rest e = cc

  ends_by : (b : Bool) (tokens rest : List Token) → answer b tokens ≡ Bad rest → (b ≡ false) × (tokens ≡ rest)
  ends_by true tokens rest e = absurd cc
  ends_by false tokens rest e = (refl, cc)

  deep_by : (b : Bool) (tokens rest : List Token) → answer b tokens ≡ Deep rest → (b ≡ true) × (tokens ≡ rest)
  deep_by true tokens rest e = (refl, cc)
  deep_by false tokens rest e = absurd cc

  too_deep_deep : (tokens rest : List Token) → (too_deep Spells begins).reader.read tokens ≡ Deep rest → (front : List Token) × (t : Token) × (r : List Token) × (tokens ≡ front ++ t ∷ r) × (rest ≡ t ∷ r) × (too_deep Spells begins).Passes (front ++ t ∷ [])
  too_deep_deep [] rest e = absurd cc
  too_deep_deep (t ∷ tokens) rest e = let p = deep_by (member begins (number_of_kind t.kind)) (t ∷ tokens) rest e in ([], t, tokens, refl, sym p.1, (t, refl, p.0))

  too_deep_again : (a : A) (front rest : List Token) → Spells a front → IsDeep rest ((too_deep Spells begins).reader.read (front ++ rest))
  too_deep_again a [] rest s = absurd (full a s)
  too_deep_again a (t ∷ front) rest s = let begins_it : member begins (number_of_kind t.kind) ≡ true = begun a t front s in (t ∷ (front ++ rest), rw begins_it refl, omega (arith, length-append front rest))

  too_deep_keeps : (front : List Token) (t : Token) (r s : List Token) → (too_deep Spells begins).reader.read (front ++ t ∷ r) ≡ Bad (t ∷ r) → (too_deep Spells begins).reader.read (front ++ t ∷ s) ≡ Bad (t ∷ s)
  too_deep_keeps front t r s e =
      let p = ends_by (comes begins (front ++ t ∷ r)) (front ++ t ∷ r) (t ∷ r) e in
      let same : front ≡ [] = append_cancel_right front [] (t ∷ r) p.1 in
      let none : comes begins (front ++ t ∷ s) ≡ false = rw (← comes_same begins front t r s) p.0 in
      rw (none, same) refl

  pub too_deep_exact : IsExact (too_deep Spells begins)
  too_deep_exact = record {
    takes = λ tokens a rest e. absurd (never_got (comes begins tokens) tokens a rest e);
    again = λ a front rest s stops. inr (too_deep_again a front rest s);
    begun = begun;
    full = λ a s. absurd (full a s);
    ends = λ tokens rest e. let p = ends_by (comes begins tokens) tokens rest e in ([], p.1, (some.0, some.1, some.2));
    keeps_got = λ front t r s a e. absurd (never_got (comes begins (front ++ t ∷ r)) (front ++ t ∷ r) a (t ∷ r) e);
    keeps_bad = too_deep_keeps;
    deep = too_deep_deep;
    passes = λ front rest (t, e, m). subst (λ (l : List Token). IsDeep rest ((too_deep Spells begins).reader.read (l ++ rest))) (sym e) (t ∷ rest, rw m refl, omega arith);
    passed = λ front (t, e, m). subst (λ (l : List Token). Begins Spells l) (sym e) (starts t m);
    not_nothing = λ (t, e, m). cc e;
    some = some;
  }
