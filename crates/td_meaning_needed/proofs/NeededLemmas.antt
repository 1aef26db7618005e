-- Marks of levels, one after the other.
use Rattle.std.proofs.Common.{◌≡◌, ℕ, ◌+◌, ◌<◌, ◌≤◌, ◌||◌, Bool, true, false, List, [], ◌∷◌, ◌++◌, length, length-append, get_or, set, refl, sym, ap, ◌∙◌, arith, inl, inr}
use Rattle.std.specs.Prelude.{nat_eq}
use Rattle.std.proofs.lemmas.Bool.{eq-eqb, ne_eqb, cases_eq, cases_lt}
use Rattle.std.proofs.lemmas.List.{get_or-set_same, get_or-set_other, get_or_append_left, get_or_push}
use Rattle.std.proofs.lemmas.Grind.{common_steps}
use Rattle.td_meaning_needed.specs.Needed.{Marked, AreMarks}
use Rattle.td_num.proofs.Truths.{or_assoc}

or_false : (a b : Bool) → b ≡ false → a ≡ (a || b)
or_false true b h = refl
or_false false b h = sym h

or_true : (a b : Bool) → b ≡ true → true ≡ (a || b)
or_true true b h = refl
or_true false b h = sym h

or_comm : (a b : Bool) → (a || b) ≡ (b || a)
or_comm true true = refl
or_comm true false = refl
or_comm false true = refl
or_comm false false = refl

pub marked_none : (marks : List Bool) (test : ℕ → Bool) → ((i : ℕ) → test i ≡ false) → Marked marks marks test
marked_none marks test h = record { long = refl; at = λ i lt. or_false (get_or marks i false) (test i) (h i) }

pub marked_by : (old new : List Bool) (test other : ℕ → Bool) → Marked old new test → ((i : ℕ) → other i ≡ test i) → Marked old new other
marked_by old new test other h e = record { long = h.long; at = λ i lt. h.at i lt ∙ ap (λ v. get_or old i false || v) (sym (e i)) }

pub marked_then : (a b c : List Bool) (s t u : ℕ → Bool) → Marked a b s → Marked b c t → ((i : ℕ) → u i ≡ (s i || t i)) → Marked a c u
marked_then a b c s t u h k e = record {
  long = k.long ∙ h.long;
  at = λ i lt.
      let low : i < length b = omega (arith, lt, h.long) in
      k.at i low ∙ ap (λ v. v || t i) (h.at i lt) ∙ or_assoc (get_or a i false) (s i) (t i) ∙ ap (λ v. get_or a i false || v) (sym (e i));
}

pub marked_here : (marks : List Bool) (level : ℕ) → level < length marks → Marked marks (set marks level true) (λ i. nat_eq i level)
marked_here marks level low = record {
  long = grind (arith, common_steps);
  at = λ i lt. elim (cases_eq i level) [
    | inl e ↦ ap (λ k. get_or (set marks level true) k false) e ∙ get_or-set_same marks level true false low ∙ or_true (get_or marks i false) (nat_eq i level) (eq-eqb i level e)
    | inr apart ↦ get_or-set_other marks level i true false apart ∙ or_false (get_or marks i false) (nat_eq i level) (ne_eqb i level apart)
  ];
}

pub marked_past : (marks : List Bool) (level : ℕ) → length marks ≤ level → Marked marks marks (λ i. nat_eq i level)
marked_past marks level high = record {
  long = refl;
  at = λ i lt. or_false (get_or marks i false) (nat_eq i level) (ne_eqb i level (λ e. omega (arith, lt, high, e)));
}

pub marks_then : (a b : List Bool) (s t u : ℕ → Bool) → AreMarks a s → Marked a b t → ((i : ℕ) → u i ≡ (s i || t i)) → AreMarks b u
marks_then a b s t u h k e = record {
  at = λ i lt.
      let low : i < length a = omega (arith, lt, k.long) in
      k.at i low ∙ ap (λ v. v || t i) (h.at i low) ∙ sym (e i);
}

-- what parts and a field name, in the order in which they are marked
pub more_part : (p ps later : Bool) → ((p || ps) || later) ≡ ((ps || later) || p)
more_part true true later = refl
more_part true false true = refl
more_part true false false = refl
more_part false true later = refl
more_part false false true = refl
more_part false false false = refl

pub more_field : (el ex ps later : Bool) → ((el || (ex || ps)) || later) ≡ (((ps || later) || el) || ex)
more_field true true true later = refl
more_field true true false true = refl
more_field true true false false = refl
more_field true false true later = refl
more_field true false false true = refl
more_field true false false false = refl
more_field false true true later = refl
more_field false true false true = refl
more_field false true false false = refl
more_field false false true later = refl
more_field false false false true = refl
more_field false false false false = refl

pub need_is : (r act named later ps fs : Bool) → named ≡ (ps || fs) → (r || (act || (named || later))) ≡ (r || (act || (ps || (fs || later))))
need_is r act named later ps fs e = ap (λ v. r || (act || (v || later))) e ∙ ap (λ v. r || (act || v)) (or_assoc ps fs later)

pub marks_push : (marks : List Bool) → AreMarks marks (λ i. false) → AreMarks (marks ++ false ∷ []) (λ i. false)
marks_push marks h = record {
  at = λ i lt. elim (cases_lt i (length marks)) [
    | inl low ↦ get_or_append_left marks (false ∷ []) false i low ∙ h.at i low
    | inr high ↦
        let here : length marks ≡ i = omega (arith, lt, high, length-append marks (false ∷ [])) in
        get_or_push marks false false i here
  ];
}
