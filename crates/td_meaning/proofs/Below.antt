-- What arithmetic in 64 bits gives for a definition is made of those before it. Cited by other crates.
use Rattle.std.proofs.Common.{◌≡◌, ℕ, zero, suc, ◌<◌, ◌≤◌, List, refl, sym, ap, ◌∙◌, arith, inl, inr}
use Rattle.std.proofs.lemmas.Bool.{eq-eqb, ne_eqb, cases_eq}
use Rattle.std.specs.Prelude.{slice_get}
use Rattle.td_meaning.specs.Imports.{TypeDef, Impossible}
use Rattle.td_core.specs.Outcome.{rejected}
use Rattle.td_meaning.specs.Meaning.{pick}
use Rattle.td_meaning.specs.Words64.{definition_meaning, below}

module _ (sets : List (List ℕ)) (definitions : List TypeDef) where
  pub below_self : (j : ℕ) → below sets definitions (suc j) j ≡ definition_meaning sets (below sets definitions j) (slice_get definitions j)
  unfolding below
  below_self j =
      ap (λ b. pick b (definition_meaning sets (below sets definitions j) (slice_get definitions j)) (below sets definitions j j)) (eq-eqb j j refl)

  -- a definition means the same from wherever it is named
  pub below_at : (n j : ℕ) → j < n → below sets definitions n j ≡ below sets definitions (suc j) j
  unfolding below
  below_at zero j h = absurd (omega arith)
  below_at (suc n) j h = elim (cases_eq j n) [
    | inl e ↦ ap (λ i. below sets definitions (suc i) j) (sym e)
    | inr apart ↦
        let step = ap (λ b. pick b (definition_meaning sets (below sets definitions n) (slice_get definitions n)) (below sets definitions n j)) (ne_eqb j n apart) in
        let smaller : j < n = omega arith in
        step ∙ below_at n j smaller
  ]

  -- past the definitions there is nothing
  pub below_past : (n j : ℕ) (args places cells message : List ℕ) (p end : ℕ) → n ≤ j → below sets definitions n j args places cells message p end ≡ rejected Impossible p cells
  unfolding below
  below_past zero j args places cells message p end h = refl
  below_past (suc n) j args places cells message p end h =
      let apart : j ≡ n → ⊥ = λ e. omega (arith, e) in
      let smaller : n ≤ j = omega arith in
      ap (λ b. pick b (definition_meaning sets (below sets definitions n) (slice_get definitions n)) (below sets definitions n j) args places cells message p end) (ne_eqb j n apart)
      ∙ below_past n j args places cells message p end smaller
