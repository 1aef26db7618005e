-- Any number of an unambiguous production, and a list of them, are unambiguous.
use Rattle.std.proofs.Common.{◌≡◌, ℕ, true, false, List, [], ◌∷◌, ◌++◌, refl, sym, ap, subst, ◌∙◌, append_assoc, ◌⊎◌, inl, inr}
use Rattle.td_ast.specs.declared.token.Token.{Token}
use Rattle.td_ast.specs.Kinds.{number_of_kind}
use Rattle.td_grammar.specs.Sets.{comes, member}
use Rattle.td_grammar.specs.Grammar.{Grammar, all_of}
use Rattle.td_grammar.specs.Listed.{IsOf, SpellsListed, listed}
use Rattle.td_grammar.proofs.Sets.{disjoint}
use Rattle.td_grammar.proofs.Tools.{Stops, apart_at, stops_left, stops_right}
use Rattle.td_grammar.proofs.Exact.{IsExact, IsApart}
use Rattle.td_grammar.proofs.Led.{led_of, not_here, all_led, all_seam}
use Rattle.td_grammar.proofs.Unambiguous.{IsOne, regroup, behind}

module _ {A : Type 0} (g : Grammar A) (G : IsOne g) (solid : g.reader.may_be_empty ≡ false) (apart : IsApart g g) where
  -- where one stands, the end can't
  not_ended : (y : A) (w v₀ v₁ rest more : List Token) → g.Spells y v₀ → w ≡ [] → w ++ rest ≡ v₀ ++ (v₁ ++ more) → Stops (all_of g).reader.goes_on rest → ⊥
  not_ended y w v₀ v₁ rest more s e same p = not_here g G.led solid y rest v₀ (v₁ ++ more) s (sym (ap (λ (l : List Token). l ++ rest) e) ∙ same) (stops_left g.reader.begins g.reader.goes_on rest p)

  all_only : (xs ys : List A) (u v rest more : List Token) → (all_of g).Spells xs u → (all_of g).Spells ys v → u ++ rest ≡ v ++ more → Stops (all_of g).reader.goes_on rest → Stops (all_of g).reader.goes_on more → (xs ≡ ys) × (u ≡ v)
  all_only [] [] u v rest more s t same p q = (refl, s ∙ sym t)
  all_only [] (y ∷ ys) u v rest more s (v₀, v₁, e, k, l) same p q = absurd (not_ended y u v₀ v₁ rest more k s (same ∙ (ap (λ (l : List Token). l ++ more) e ∙ append_assoc v₀ v₁ more)) p)
  all_only (x ∷ xs) [] u v rest more (u₀, u₁, d, a, b) t same p q = absurd (not_ended x v u₀ u₁ more rest a t (sym same ∙ (ap (λ (l : List Token). l ++ rest) d ∙ append_assoc u₀ u₁ rest)) q)
  all_only (x ∷ xs) (y ∷ ys) u v rest more (u₀, u₁, d, a, b) (v₀, v₁, e, k, l) same p q =
      let whole = regroup u u₀ u₁ v v₀ v₁ rest more d e same in
      let first = G.only x y u₀ v₀ (u₁ ++ rest) (v₁ ++ more) a k whole (all_seam g G.led solid apart xs u₁ rest b p) (all_seam g G.led solid apart ys v₁ more l q) in
      let others = all_only xs ys u₁ v₁ rest more b l (behind u₀ v₀ (u₁ ++ rest) (v₁ ++ more) first.1 whole) p q in
      (cc (first.0, others.0), cc (d, e, first.1, others.1))

  pub all_one : IsOne (all_of g)
  all_one = record { led = all_led g G.led solid; only = all_only }

-- the tokens after the first of a list
abbrev SpellsOthers : {A : Type 0} → List ℕ → (A → List Token → Type 0) → List A → List Token → Type 0
SpellsOthers parts P [] tokens = (tokens ≡ []) ⊎ IsOf parts tokens
SpellsOthers parts P (y ∷ ys) tokens = (part : Token) × (back : List Token) × (tokens ≡ part ∷ back) × (member parts (number_of_kind part.kind) ≡ true) × SpellsListed parts P y ys back

-- the first, and the others
in_two : {A : Type 0} (parts : List ℕ) (P : A → List Token → Type 0) (x : A) (xs : List A) (tokens : List Token) → SpellsListed parts P x xs tokens
    → (front : List Token) × (back : List Token) × (tokens ≡ front ++ back) × P x front × SpellsOthers parts P xs back
in_two parts P x [] tokens (u, v, e, s, z) = (u, v, e, s, z)
in_two parts P x (y ∷ ys) tokens (u, t, v, e, s, m, l) = (u, t ∷ v, e, s, (t, v, refl, m, l))

module _ {A : Type 0} (parts : List ℕ) (g : Grammar A) (G : IsOne g) (L : IsExact (listed parts g)) (solid : g.reader.may_be_empty ≡ false) (apart : disjoint parts g.reader.goes_on ≡ true) where
  abbrev Ends : List Token → Type 0
  Ends rest = Stops (parts ++ (g.reader.begins ++ g.reader.goes_on)) rest

  no_part : (rest : List Token) → Ends rest → Stops parts rest
  no_part rest p = stops_left parts (g.reader.begins ++ g.reader.goes_on) rest p

  no_other : (rest : List Token) → Ends rest → Stops (g.reader.begins ++ g.reader.goes_on) rest
  no_other rest p = stops_right parts (g.reader.begins ++ g.reader.goes_on) rest p

  -- a part doesn't go on with one
  part_stops : (t : Token) (back v rest : List Token) → member parts (number_of_kind t.kind) ≡ true → v ≡ t ∷ back → Stops g.reader.goes_on (v ++ rest)
  part_stops t back v rest m e = subst (λ (l : List Token). Stops g.reader.goes_on (l ++ rest)) (sym e) (apart_at parts g.reader.goes_on (number_of_kind t.kind) apart m)

  others_stop : (xs : List A) (v rest : List Token) → SpellsOthers parts g.Spells xs v → Ends rest → Stops g.reader.goes_on (v ++ rest)
  others_stop [] v rest (inl e) p = subst (λ (l : List Token). Stops g.reader.goes_on (l ++ rest)) (sym e) (stops_right g.reader.begins g.reader.goes_on rest (no_other rest p))
  others_stop [] v rest (inr (t, e, m)) p = part_stops t [] v rest m e
  others_stop (y ∷ ys) v rest (t, back, e, m, l) p = part_stops t back v rest m e

  -- where a part stands, the end can't
  not_part : (w z back rest more : List Token) (t : Token) → w ≡ [] → z ≡ t ∷ back → member parts (number_of_kind t.kind) ≡ true → w ++ rest ≡ z ++ more → Ends rest → ⊥
  not_part w z back rest more t d e m same p =
      let whole : rest ≡ t ∷ (back ++ more) = sym (ap (λ (l : List Token). l ++ rest) d) ∙ (same ∙ ap (λ (l : List Token). l ++ more) e) in
      let comes_part : comes parts rest ≡ true = subst (λ (l : List Token). comes parts l ≡ true) (sym whole) m in
      cc (comes_part, no_part rest p)

  -- what comes after two parts
  after_parts : (w z u v rest more : List Token) (t s : Token) → w ≡ t ∷ u → z ≡ s ∷ v → w ++ rest ≡ z ++ more → (t ≡ s) × (u ++ rest ≡ v ++ more)
  after_parts w z u v rest more t s d e same =
      let whole : t ∷ (u ++ rest) ≡ s ∷ (v ++ more) = sym (ap (λ (l : List Token). l ++ rest) d) ∙ (same ∙ ap (λ (l : List Token). l ++ more) e) in
      (cc, cc)

  ended_only : (w z rest more : List Token) → (w ≡ []) ⊎ IsOf parts w → (z ≡ []) ⊎ IsOf parts z → w ++ rest ≡ z ++ more → Ends rest → Ends more → w ≡ z
  ended_only w z rest more (inl d) (inl e) same p q = d ∙ sym e
  ended_only w z rest more (inl d) (inr (s, e, m)) same p q = absurd (not_part w z [] rest more s d e m same p)
  ended_only w z rest more (inr (t, d, m)) (inl e) same p q = absurd (not_part z w [] more rest t e d m (sym same) q)
  ended_only w z rest more (inr (t, d, m)) (inr (s, e, n)) same p q = let o = after_parts w z [] [] rest more t s d e same in cc (d, e, o.0)

  -- where one more stands, the list isn't ended
  not_last : (y : A) (ys : List A) (w z back rest more : List Token) (s : Token) → (w ≡ []) ⊎ IsOf parts w → z ≡ s ∷ back → member parts (number_of_kind s.kind) ≡ true → SpellsListed parts g.Spells y ys back → w ++ rest ≡ z ++ more → Ends rest → ⊥
  not_last y ys w z back rest more s (inl d) e m l same p = not_part w z back rest more s d e m same p
  not_last y ys w z back rest more s (inr (t, d, n)) e m l same p =
      let o = after_parts w z [] back rest more t s d e same in
      let b = in_two parts g.Spells y ys back l in
      not_here g G.led solid y rest b.0 (b.1 ++ more) b.3 (o.1 ∙ (ap (λ (k : List Token). k ++ more) b.2 ∙ append_assoc b.0 b.1 more)) (stops_left g.reader.begins g.reader.goes_on rest (no_other rest p))

  -- the first of two lists, and what comes after them
  first_only : (x y : A) (xs ys : List A) (u₀ u₁ v₀ v₁ rest more : List Token) → g.Spells x u₀ → SpellsOthers parts g.Spells xs u₁ → g.Spells y v₀ → SpellsOthers parts g.Spells ys v₁ → u₀ ++ (u₁ ++ rest) ≡ v₀ ++ (v₁ ++ more) → Ends rest → Ends more
      → (x ≡ y) × (u₀ ≡ v₀) × (u₁ ++ rest ≡ v₁ ++ more)
  first_only x y xs ys u₀ u₁ v₀ v₁ rest more a b k l whole p q =
      let o = G.only x y u₀ v₀ (u₁ ++ rest) (v₁ ++ more) a k whole (others_stop xs u₁ rest b p) (others_stop ys v₁ more l q) in
      (o.0, o.1, behind u₀ v₀ (u₁ ++ rest) (v₁ ++ more) o.1 whole)

  others_only : (xs ys : List A) (w z rest more : List Token) → SpellsOthers parts g.Spells xs w → SpellsOthers parts g.Spells ys z → w ++ rest ≡ z ++ more → Ends rest → Ends more → (xs ≡ ys) × (w ≡ z)
  others_only [] [] w z rest more s t same p q = (refl, ended_only w z rest more s t same p q)
  others_only [] (y ∷ ys) w z rest more s (t, back, e, m, l) same p q = absurd (not_last y ys w z back rest more t s e m l same p)
  others_only (x ∷ xs) [] w z rest more (t, back, d, m, l) s same p q = absurd (not_last x xs z w back more rest t s d m l (sym same) q)
  others_only (x ∷ xs) (y ∷ ys) w z rest more (t, u, d, m, k) (s, v, e, n, l) same p q =
      let tail = after_parts w z u v rest more t s d e same in
      let a = in_two parts g.Spells x xs u k in
      let b = in_two parts g.Spells y ys v l in
      let first = first_only x y xs ys a.0 a.1 b.0 b.1 rest more a.3 a.4 b.3 b.4 (regroup u a.0 a.1 v b.0 b.1 rest more a.2 b.2 tail.1) p q in
      let others = others_only xs ys a.1 b.1 rest more a.4 b.4 first.2 p q in
      (cc (first.0, others.0), cc (d, e, tail.0, a.2, b.2, first.1, others.1))

  listed_only : (xs ys : List A) (u v rest more : List Token) → (listed parts g).Spells xs u → (listed parts g).Spells ys v → u ++ rest ≡ v ++ more → Ends rest → Ends more → (xs ≡ ys) × (u ≡ v)
  listed_only [] ys u v rest more s t same p q = absurd s
  listed_only (x ∷ xs) [] u v rest more s t same p q = absurd t
  listed_only (x ∷ xs) (y ∷ ys) u v rest more s t same p q =
      let a = in_two parts g.Spells x xs u s in
      let b = in_two parts g.Spells y ys v t in
      let first = first_only x y xs ys a.0 a.1 b.0 b.1 rest more a.3 a.4 b.3 b.4 (regroup u a.0 a.1 v b.0 b.1 rest more a.2 b.2 same) p q in
      let others = others_only xs ys a.1 b.1 rest more a.4 b.4 first.2 p q in
      (cc (first.0, others.0), cc (a.2, b.2, first.1, others.1))

  pub listed_one : IsOne (listed parts g)
  listed_one = record { led = led_of L; only = listed_only }
