-- Numbers of definitions that are made of those of earlier ones: they stay when a definition is added.
use Rattle.std.proofs.Common.{◌≡◌, ◌⊎◌, inl, inr, ℕ, zero, suc, ◌<◌, ◌≤◌, Bool, true, false, List, [], ◌∷◌, ◌++◌, length, Option, Some, refl, sym, ap, ◌∙◌, subst, arith, slice_get, nat_eq, length-append}
use Rattle.std.proofs.lemmas.Bool.{eq-eqb, ne_eqb, cases_eq}
use Rattle.td_front_facts.specs.Imports.{TypeDef}
use Rattle.td_core.specs.Weights.{either_number, below_by}

get_append : (ds rest : List TypeDef) (n : ℕ) → n < length ds → slice_get (ds ++ rest) n ≡ slice_get ds n
get_append [] rest n lt = absurd (omega (arith, lt))
get_append (d ∷ ds) rest zero lt = refl
get_append (d ∷ ds) rest (suc n) lt = get_append ds rest n (omega (arith, lt))

get_last : (ds : List TypeDef) (d : TypeDef) → slice_get (ds ++ d ∷ []) (length ds) ≡ Some d
get_last [] d = refl
get_last (x ∷ ds) d = get_last ds d

module _ (of : (ℕ → ℕ) → Option TypeDef → ℕ) where
  below_same : (ds rest : List TypeDef) (n : ℕ) → n ≤ length ds → below_by of (ds ++ rest) n ≡ below_by of ds n
  unfolding below_by
  below_same ds rest zero le = refl
  below_same ds rest (suc n) le =
      let earlier = below_same ds rest n (omega (arith, le)) in
      let here = get_append ds rest n (omega (arith, le)) in
      λ i j. either_number (nat_eq j n) (of (earlier i) (here i)) (earlier i j)

  below_next : (ds : List TypeDef) (n j : ℕ) (b : Bool) → nat_eq j n ≡ b → below_by of ds (suc n) j ≡ either_number b (of (below_by of ds n) (slice_get ds n)) (below_by of ds n j)
  unfolding below_by
  below_next ds n j b e = ap (λ b. either_number b (of (below_by of ds n) (slice_get ds n)) (below_by of ds n j)) e

  below_past : (ds : List TypeDef) (n j : ℕ) → n ≤ j → below_by of ds n j ≡ 0
  unfolding below_by
  below_past ds zero j le = refl
  below_past ds (suc n) j le =
      let apart : j ≡ n → ⊥ = λ e. omega (arith, e, le) in
      below_next ds n j false (ne_eqb j n apart) ∙ below_past ds n j (omega (arith, le))

  -- of definition n of the list
  abbrev pub number_of_definition : List TypeDef → ℕ → ℕ
  number_of_definition ds n = below_by of ds (length ds) n

  added : (ds : List TypeDef) (d : TypeDef) (j : ℕ) → number_of_definition (ds ++ d ∷ []) j ≡ below_by of (ds ++ d ∷ []) (suc (length ds)) j
  added ds d j =
      let count : length (ds ++ d ∷ []) ≡ suc (length ds) = omega (arith, length-append ds (d ∷ [])) in
      ap (λ n. below_by of (ds ++ d ∷ []) n j) count

  -- those that were there
  pub stays : (ds : List TypeDef) (d : TypeDef) (j : ℕ) → j < length ds → number_of_definition (ds ++ d ∷ []) j ≡ number_of_definition ds j
  stays ds d j lt =
      let apart : j ≡ length ds → ⊥ = λ e. omega (arith, e, lt) in
      added ds d j ∙ below_next (ds ++ d ∷ []) (length ds) j false (ne_eqb j (length ds) apart)
      ∙ ap (λ f. f j) (below_same ds (d ∷ []) (length ds) (omega arith))

  -- the one that was added
  pub last : (ds : List TypeDef) (d : TypeDef) → number_of_definition (ds ++ d ∷ []) (length ds) ≡ of (number_of_definition ds) (Some d)
  last ds d =
      let same = below_same ds (d ∷ []) (length ds) (omega arith) in
      added ds d (length ds) ∙ below_next (ds ++ d ∷ []) (length ds) (length ds) true (eq-eqb (length ds) (length ds) refl)
      ∙ (λ i. of (same i) (get_last ds d i))

  -- all of them are at most so much
  pub most : (ds : List TypeDef) (d : TypeDef) (bound : ℕ) → ((n : ℕ) → number_of_definition ds n ≤ bound) → of (number_of_definition ds) (Some d) ≤ bound → (n : ℕ) → number_of_definition (ds ++ d ∷ []) n ≤ bound
  most ds d bound h own n = elim (cases_eq n (length ds)) [
    | inl e ↦ subst (λ j. number_of_definition (ds ++ d ∷ []) j ≤ bound) (sym e) (omega (arith, last ds d, own))
    | inr apart ↦ others (λ lt. omega (arith, stays ds d n lt, h n)) (λ gt. omega (arith, below_past (ds ++ d ∷ []) (length (ds ++ d ∷ [])) n (omega (arith, gt, length-append ds (d ∷ []))))) (order n (length ds) apart)
  ]
    where
      others : (n < length ds → number_of_definition (ds ++ d ∷ []) n ≤ bound) → (length ds < n → number_of_definition (ds ++ d ∷ []) n ≤ bound) → (n < length ds) ⊎ (length ds < n) → number_of_definition (ds ++ d ∷ []) n ≤ bound
      others f g (inl lt) = f lt
      others f g (inr gt) = g gt

      order : (a b : ℕ) → (a ≡ b → ⊥) → (a < b) ⊎ (b < a)
      order zero zero ne = absurd (ne refl)
      order zero (suc b) ne = inl (omega arith)
      order (suc a) zero ne = inr (omega arith)
      order (suc a) (suc b) ne = elim (order a b (λ e. ne (ap suc e))) [ inl h ↦ inl (omega (arith, h)) | inr h ↦ inr (omega (arith, h)) ]
