-- Fields, one after the other: what holds at the end, where they accept and where they reject.
use Rattle.std.proofs.Common.{◌≡◌, ℕ, ◌+◌, ◌≤◌, Bool, true, false, List, [], ◌∷◌, ◌++◌, nat_le, Option, Some, None, refl, sym, ◌∙◌, subst}
use Rattle.std.proofs.lemmas.Bool.{true≢false, le-leb}
use Rattle.td_num.specs.declared.number.Width.{Width}
use Rattle.td_num.specs.Numbers.{bytes_in, number_at}
use Rattle.td_core.specs.declared.module.Field.{Field}
use Rattle.td_core.specs.declared.module.NameId.{NameId}
use Rattle.td_core.specs.declared.module.Part.{Part}
use Rattle.td_core.specs.declared.outcome.Reason.{Reason}
use Rattle.td_core.specs.declared.outcome.Reason.TheVariants.{NotEnough, Constraint}
use Rattle.td_core.specs.Term.{Term}
use Rattle.td_core.specs.Outcome.{Behavior, Ending, Accepted, Rejected, FramePlace, accepted, onward, and_then, ending_within}
use Rattle.td_meaning.specs.Doing.{is_true}
use Rattle.td_meaning.specs.Meaning.{Sense, fields_meaning, parts_meaning, taken, demanded, refined, acted, checked, bits_of, extended, first_name, field_place}
use Rattle.td_meaning.specs.Met.{MetOption}
use Rattle.td_chain_means.specs.Format.{little, number_field}
use Rattle.td_chain_means.specs.Meant.{Ends}

ends_then : (o : Ending) (reads : List ℕ) (go : ℕ → List ℕ → Behavior) (A P : ℕ → List ℕ → Type 0) (R : Type 0) → Ends o A R
    → ((q : ℕ) (cells : List ℕ) → A q cells → Ends (go q cells).ending P R) → Ends (onward o reads go).ending P R
ends_then (Accepted q cells) reads go A P R h k = k q cells h
ends_then (Rejected reason position trace cells) reads go A P R h k = h

ends_within : (site : FramePlace) (o : Ending) (P : ℕ → List ℕ → Type 0) (R : Type 0) → Ends o P R → Ends (ending_within site o) P R
ends_within site (Accepted q cells) P R h = h
ends_within site (Rejected reason position trace cells) P R h = h

ends_demanded : (reason : Reason) (b : Bool) (start q : ℕ) (cells : List ℕ) (P : ℕ → List ℕ → Type 0) (R : Type 0) → (b ≡ true → P q cells) → (b ≡ false → R)
    → Ends (demanded reason b start q cells).ending P R
ends_demanded reason true start q cells P R h k = h refl
ends_demanded reason false start q cells P R h k = k refl

abbrev At : ℕ → List ℕ → Type 0 → ℕ → List ℕ → Type 0
At q cells X r more = (r ≡ q) × (more ≡ cells) × X

-- a test, where there is one, is false
abbrev pub Unmet : Option Term → List ℕ → Type 0
Unmet None env = ⊥
Unmet (Some e) env = is_true e env ≡ false

refined_ends : (e : Option Term) (env : List ℕ) (start q : ℕ) (cells : List ℕ) (R : Type 0) → (Unmet e env → R)
    → Ends (refined e env start q cells).ending (At q cells (MetOption e env)) R
refined_ends None env start q cells R k = (refl, refl, tt)
refined_ends (Some e) env start q cells R k =
    ends_demanded Constraint (is_true e env) start q cells (At q cells (MetOption (Some e) env)) R (λ h. (refl, refl, h)) k

module _ (sets : List (List ℕ)) (senses : ℕ → Sense) (ty : NameId) (places b : List ℕ) (end : ℕ) (Q : ℕ → List ℕ → Type 0) (R : Type 0) where
  -- one part of a number: its refinement is met or isn't, and its action leaves these cells
  pub part_ends : (n p q : ℕ) (part : Part) (parts : List Part) (env cells cells' : List ℕ)
      → acted part.action (env ++ bits_of part.bits n ∷ []) places p q cells ≡ accepted q cells'
      → (MetOption part.refinement (env ++ bits_of part.bits n ∷ []) → Ends (parts_meaning ty p n parts (env ++ bits_of part.bits n ∷ []) places q cells').ending Q R)
      → (Unmet part.refinement (env ++ bits_of part.bits n ∷ []) → R)
      → Ends (parts_meaning ty p n (part ∷ parts) env places q cells).ending Q R
  unfolding parts_meaning
  part_ends n p q part parts env cells cells' acts k r =
      let env' = env ++ bits_of part.bits n ∷ [] in
      let met = MetOption part.refinement env' in
      ends_then _ _ _ (At q cells' met) Q R
      (ends_within (field_place ty part.name p) (checked part env' places p q cells).ending (At q cells' met) R
      (ends_then _ _ _ (At q cells met) (At q cells' met) R (refined_ends part.refinement env' p q cells R r)
      (λ s other here. subst (λ (x : ℕ × List ℕ). Ends (acted part.action env' places p x.0 x.1).ending (At q cells' met) R) (λ i. (sym here.0 i, sym here.1 i))
      (subst (λ (y : Behavior). Ends y.ending (At q cells' met) R) (sym acts) (refl, refl, here.2)))))
      (λ s other here. subst (λ (x : ℕ × List ℕ). Ends (parts_meaning ty p n parts env' places x.0 x.1).ending Q R) (λ i. (sym here.0 i, sym here.1 i)) (k here.2))

  pub parts_end : (n p q : ℕ) (env cells : List ℕ) → Q q cells → Ends (parts_meaning ty p n [] env places q cells).ending Q R
  unfolding parts_meaning
  parts_end n p q env cells h = h

module _ (sets : List (List ℕ)) (senses : ℕ → Sense) (ty : NameId) (places b : List ℕ) (end : ℕ) (Q : ℕ → List ℕ → Type 0) (R : Type 0) where
  -- one number: its bytes stand before the end, and then its parts follow
  pub field_ends : (w : Width) (parts : List Part) (later : List Field) (env : List ℕ) (p : ℕ) (cells : List ℕ) → p + bytes_in w ≤ end
      → Ends (parts_meaning ty p (number_at (little w) b p) parts env places (p + bytes_in w) cells).ending
      (λ q more. Ends (fields_meaning sets senses ty later (extended env (number_at (little w) b p) parts) places b end q more).ending Q R) R
      → Ends (fields_meaning sets senses ty (number_field w parts ∷ later) env places b end p cells).ending Q R
  unfolding fields_meaning
  field_ends w parts later env p cells fits k =
      let n = number_at (little w) b p in
      let q = p + bytes_in w in
      let fp = field_place ty (first_name parts) p in
      ends_then _ _ _ (At q cells (Unit {0})) Q R
      (ends_within fp (taken (bytes_in w) p end p cells).ending (At q cells (Unit {0})) R
      (ends_demanded NotEnough (nat_le (p + bytes_in w) end) p q cells (At q cells (Unit {0})) R (λ h. (refl, refl, tt))
      (λ h. absurd (true≢false (sym (le-leb q end fits) ∙ h)))))
      (λ r more at.
      subst (λ (x : ℕ × List ℕ). Ends (and_then (parts_meaning ty p n parts env places x.0 x.1) (fields_meaning sets senses ty later (extended env n parts) places b end)).ending Q R)
      (λ i. (sym at.0 i, sym at.1 i))
      (ends_then _ _ _ (λ s other. Ends (fields_meaning sets senses ty later (extended env n parts) places b end s other).ending Q R) Q R k (λ s other here. here)))

  pub fields_end : (env cells : List ℕ) (p : ℕ) → Q p cells → Ends (fields_meaning sets senses ty [] env places b end p cells).ending Q R
  unfolding fields_meaning
  fields_end env cells p h = h
