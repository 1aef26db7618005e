-- The answers of an input exclude each other, and each has one place.
use Rattle.std.proofs.Common.{◌≡◌, ℕ, Bool, true, false, List, [], ◌∷◌, ◌++◌, Some, None, nat_lt, sym, ap, subst, ◌∙◌, arith}
use Rattle.std.proofs.lemmas.Bool.Decides.{nat_tests}
use Rattle.td_num.specs.Lists.{Each}
use Rattle.td_front_flat_facts.specs.Imports.{Span, Name, PartTree, Module, Parts}
use Rattle.td_front_flat.specs.Order.{IsCyclic, IsFirstCyclic, NoneCyclic, uses_at, first_twice}
use Rattle.td_front_flat_facts.specs.Laws.{OneAnswerEach}

module _ (P : Name → Type 0) where
  -- none of these, so not this one
  here : (sooner : List Name) (u : Name) (later : List Name) → Each (λ v. P v → ⊥) (sooner ++ u ∷ later) → P u → ⊥
  here [] u later h p = h.0 p
  here (v ∷ sooner) u later h p = here sooner u later h.1 p

  -- the first of a list is one
  first_same : (a b : List Name) (u v : Name) (c d : List Name) → a ++ u ∷ c ≡ b ++ v ∷ d → Each (λ w. P w → ⊥) a → Each (λ w. P w → ⊥) b → P u → P v → u ≡ v
  first_same [] [] u v c d e h k p q = cc
  first_same [] (w ∷ b) u v c d e h k p q = let same : u ≡ w = cc in absurd (k.0 (subst P same p))
  first_same (w ∷ a) [] u v c d e h k p q = let same : v ≡ w = cc in absurd (h.0 (subst P same q))
  first_same (w ∷ a) (x ∷ b) u v c d e h k p q = let rest : a ++ u ∷ c ≡ b ++ v ∷ d = cc in first_same a b u v c d rest h.1 k.1 p q

-- no use of the part is cyclic, but this one is
not_there : (parts : List PartTree) (at : Span) (h : IsFirstCyclic parts at) → NoneCyclic parts h.part (uses_at parts h.part) → ⊥
not_there parts at h none = here (IsCyclic parts h.part) h.sooner h.use_there h.later (subst (NoneCyclic parts h.part) h.uses none) h.cyclic

cycle_once : (parts : List PartTree) (a b : Span) → IsFirstCyclic parts a → IsFirstCyclic parts b → a ≡ b
cycle_once parts a b h k = by (nat_lt h.part k.part) refl_lt (nat_lt k.part h.part) refl_gt
  where
    refl_lt : nat_lt h.part k.part ≡ nat_lt h.part k.part
    refl_lt = grind arith

    refl_gt : nat_lt k.part h.part ≡ nat_lt k.part h.part
    refl_gt = grind arith

    moved : (i j : ℕ) (u : Name) → i ≡ j → IsCyclic parts i u → IsCyclic parts j u
    moved i j u e c = subst (λ n. IsCyclic parts n u) e c

    nones : (i j : ℕ) (us : List Name) → i ≡ j → NoneCyclic parts i us → NoneCyclic parts j us
    nones i j us e c = subst (λ n. NoneCyclic parts n us) e c

    equal : k.part ≡ h.part → a ≡ b
    equal e =
        let uses : h.sooner ++ h.use_there ∷ h.later ≡ k.sooner ++ k.use_there ∷ k.later = sym h.uses ∙ ap (uses_at parts) (sym e) ∙ k.uses in
        let same : h.use_there ≡ k.use_there =
        first_same (IsCyclic parts h.part) h.sooner k.sooner h.use_there k.use_there h.later k.later uses h.before (nones k.part h.part k.sooner e k.before) h.cyclic
        (moved k.part h.part k.use_there e k.cyclic)
        in
        sym h.place ∙ ap (λ n. n.span) same ∙ k.place

    by : (x : Bool) → nat_lt h.part k.part ≡ x → (y : Bool) → nat_lt k.part h.part ≡ y → a ≡ b
    by true lt y gt = absurd (not_there parts a h (k.parts_before h.part (grind (arith, nat_tests))))
    by false lt true gt = absurd (not_there parts b k (h.parts_before k.part (grind (arith, nat_tests))))
    by false lt false gt = equal (grind (arith, nat_tests))

pub one_answer : OneAnswerEach
one_answer (Module tree) = record {
  twice_once = λ a b h k. absurd h;
  cycle_once = λ a b h k. absurd h;
  not_both = λ a b h k. h;
  not_twice = λ a l h. h;
  not_cycle = λ a l h. h;
}
one_answer (Parts parts) = record {
  twice_once = λ a b h k. cc;
  cycle_once = λ a b h k. cycle_once parts a b h.1 k.1;
  not_both = λ a b h k. apart a h k.0;
  not_twice = λ a l h. apart a h l.0;
  not_cycle = λ a l h. not_there parts a h.1 (l.1 h.1.part);
}
  where
    apart : (a : Span) → first_twice [] parts ≡ Some a → first_twice [] parts ≡ None → ⊥
    apart a h k = cc
