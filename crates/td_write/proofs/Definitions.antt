-- How writing goes through definitions, fields and shapes.
use Rattle.std.proofs.Common.{◌≡◌, ℕ, zero, suc, ◌+◌, ◌<◌, ◌≤◌, Bool, false, List, [], ◌∷◌, ◌++◌, length, refl, sym, ap, ◌∙◌, arith, inl, inr, Option, None}
use Rattle.std.specs.Prelude.{slice_get}
use Rattle.std.proofs.lemmas.Bool.{eq-eqb, ne_eqb, cases_eq}
use Rattle.td_write.specs.Imports.{NumberType, Field, TypeDef, Impossible, Shape, Broken}
use Rattle.td_core.specs.declared.module.NameId.{NameId}
use Rattle.td_meaning.specs.Meaning.{pick, extended}
use Rattle.td_write_values.specs.Datum.{Datum, Sequence, data_of, list_of}
use Rattle.td_write_values.specs.Bytes.{unit_type}
use Rattle.td_write_values.specs.Spelling.{number_in}
use Rattle.td_write_values.specs.Writing.{Tests, Claim, Written, Done, Refused, Writer, Later, after_writing, tested, bytes_written, list_written, items_written, shape_written, copied, field_written, fields_written, definition_written, writers_below}
use Rattle.td_write.specs.Writes.{Passes}
use Rattle.td_write.proofs.Totals.{total_followed}

-- the values of a list are those of its chain
pub data_back : (vs : List Datum) → list_of (data_of vs) ≡ vs
data_back [] = refl
data_back (v ∷ vs) = ap (λ ws. v ∷ ws) (data_back vs)

-- what stands in an array that isn't one of bytes
pub contents_are : (path : List ℕ) (p : ℕ) (cells : List ℕ) (v : Datum) (xs : List Datum) (b : Bool) (each : List ℕ → ℕ → List ℕ → Datum → Written) → b ≡ false → v ≡ Sequence (data_of xs)
    → pick b (bytes_written path p cells v) (list_written each path p cells v) ≡ items_written each path 0 p cells xs
contents_are path p cells v xs b each e is =
    ap (λ x. pick x (bytes_written path p cells v) (list_written each path p cells v)) e
    ∙ ap (list_written each path p cells) is
    ∙ ap (items_written each path 0 p cells) (data_back xs)

module _ (tests : Tests) (sets : List (List ℕ)) (ds : List TypeDef) where
  writers_self : (j : ℕ) → writers_below tests sets ds (suc j) j ≡ definition_written tests sets (writers_below tests sets ds j) (slice_get ds j)
  unfolding writers_below
  writers_self j = ap (λ b. pick b (definition_written tests sets (writers_below tests sets ds j) (slice_get ds j)) (writers_below tests sets ds j j)) (eq-eqb j j refl)

  writers_at : (n j : ℕ) → j < n → writers_below tests sets ds n j ≡ writers_below tests sets ds (suc j) j
  unfolding writers_below
  writers_at zero j h = absurd (omega arith)
  writers_at (suc n) j h = elim (cases_eq j n) [
    | inl e ↦ ap (λ i. writers_below tests sets ds (suc i) j) (sym e)
    | inr apart ↦
        let step = ap (λ b. pick b (definition_written tests sets (writers_below tests sets ds n) (slice_get ds n)) (writers_below tests sets ds n j)) (ne_eqb j n apart) in
        let smaller : j < n = omega arith in
        step ∙ writers_at n j smaller
  ]

  -- past the definitions there is nothing
  pub writers_past : (n j : ℕ) (args places cells path : List ℕ) (p : ℕ) (v : Datum) → n ≤ j → writers_below tests sets ds n j args places cells path p v ≡ Refused (Broken Impossible) path
  unfolding writers_below
  writers_past zero j args places cells path p v h = refl
  writers_past (suc n) j args places cells path p v h =
      let apart : j ≡ n → ⊥ = λ e. omega (arith, e) in
      let smaller : n ≤ j = omega arith in
      ap (λ b. pick b (definition_written tests sets (writers_below tests sets ds n) (slice_get ds n)) (writers_below tests sets ds n j) args places cells path p v) (ne_eqb j n apart)
      ∙ writers_past n j args places cells path p v smaller

  pub named_by : (n j : ℕ) (o : Option TypeDef) (args places cells path : List ℕ) (p : ℕ) (v : Datum) → j < n → slice_get ds j ≡ o
      → writers_below tests sets ds n j args places cells path p v ≡ definition_written tests sets (writers_below tests sets ds j) o args places cells path p v
  named_by n j o args places cells path p v lt e =
      ap (λ f. f args places cells path p v) (writers_at n j lt)
      ∙ ap (λ f. f args places cells path p v) (writers_self j)
      ∙ ap (λ x. definition_written tests sets (writers_below tests sets ds j) x args places cells path p v) e

module _ (tests : Tests) (sets : List (List ℕ)) (writers : ℕ → Writer) (ty : NameId) (places path : List ℕ) where
  pub fields_next : (fs later : List Field) (f : Field) (env : List ℕ) (i p : ℕ) (cells : List ℕ) (vs : List Datum) → fs ≡ f ∷ later
      → fields_written tests sets writers ty fs env places path i p cells vs
      ≡ field_written tests sets writers ty (unit_type f.element f.extent) f env places path i p cells vs (λ env i p cells vs. fields_written tests sets writers ty later env places path i p cells vs)
  unfolding fields_written
  fields_next fs later f env i p cells vs e = ap (λ gs. fields_written tests sets writers ty gs env places path i p cells vs) e

  pub fields_end : (fs : List Field) (env : List ℕ) (i p : ℕ) (cells : List ℕ) (vs : List Datum) → fs ≡ [] → vs ≡ [] → fields_written tests sets writers ty fs env places path i p cells vs ≡ Done [] cells []
  unfolding fields_written
  fields_end fs env i p cells vs e f = λ k. fields_written tests sets writers ty (e k) env places path i p cells (f k)

  pub fields_left : (fs : List Field) (env : List ℕ) (i p : ℕ) (cells : List ℕ) (vs rest : List Datum) (v : Datum) → fs ≡ [] → vs ≡ v ∷ rest → fields_written tests sets writers ty fs env places path i p cells vs ≡ Refused Shape path
  unfolding fields_written
  fields_left fs env i p cells vs rest v e f = λ k. fields_written tests sets writers ty (e k) env places path i p cells (f k)

  -- a field that isn't a unit, with its refinement and its action
  pub whole_total : (o : Option NumberType) (f : Field) (env : List ℕ) (i : ℕ) (cells : List ℕ) (vs rest : List Datum) (v : Datum) (old new more last : List ℕ) (before claims : List Claim) (later : Later) → o ≡ None → vs ≡ v ∷ rest
      → after_writing old before (copied f.copy places (length old) (shape_written tests sets writers f.element f.extent env places (path ++ i ∷ []) (length old) cells v)) ≡ Done new more claims
      → Passes (tests.parts ty (length old) (number_in tests.value f.element f.extent env places cells v) f.parts env places (length new) more).ending last
      → after_writing old before (field_written tests sets writers ty o f env places path i (length old) cells vs later)
      ≡ after_writing new claims (later (extended env (number_in tests.value f.element f.extent env places cells v) f.parts) (i + 1) (length new) last rest)
  whole_total o f env i cells vs rest v old new more last before claims later e split shape passes =
      let n = number_in tests.value f.element f.extent env places cells v in
      let at = path ++ i ∷ [] in
      let next : suc i ≡ i + 1 = omega arith in
      (λ k. after_writing old before (field_written tests sets writers ty (e k) f env places path i (length old) cells (split k) later))
      ∙ total_followed old new more before claims (copied f.copy places (length old) (shape_written tests sets writers f.element f.extent env places at (length old) cells v))
      (λ q cells. tested (tests.parts ty (length old) n f.parts env places q cells).ending at (λ cells. later (extended env n f.parts) (suc i) q cells rest)) shape
      ∙ ap (after_writing new claims) (passes at (λ cells. later (extended env n f.parts) (suc i) (length new) cells rest))
      ∙ ap (λ k. after_writing new claims (later (extended env n f.parts) k (length new) last rest)) next
