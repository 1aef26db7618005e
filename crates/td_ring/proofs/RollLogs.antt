-- What was added in all is what the parts added, in another order.
use Rattle.std.proofs.Common.{◌≡◌, ◌≢◌, ◌⊎◌, ℕ, zero, suc, Bool, true, false, eqb, cond, eq-eqb, ne_eqb, List, [], ◌∷◌, ◌++◌, refl, sym, ap, ◌∙◌, subst, inl, inr, ⊎_elim, arith}
use Rattle.std.proofs.lemmas.Bool.{eqb-true}
use Rattle.std.specs.List.Sorted.{IsPermutation}
use Rattle.std.proofs.lemmas.List.Sorted.{IsPermutation-refl, IsPermutation-sym, IsPermutation-cons, IsPermutation-append_right, IsPermutation-trans, IsPermutation-middle}
use mathlib.Core.Option.{some, some-injective, some-ne-none}
use mathlib.Core.Logic.{dite}
use native.Mathlib.Decide.{ℕ_discrete}
use lib.ListN.{get_elem?}
use Rattle.td_ring.specs.declared.roll.Part.{Part}
use Rattle.td_ring.specs.Roll.{Entry, entries_of, all_entries, owned, Ended, Apart}

module _ {A : Type 0} where
  without : ℕ → List (Entry A) → List (Entry A)
  without n [] = []
  without n (e ∷ h) = cond (eqb e.0 n) (without n h) (e ∷ without n h)

  cut_out : (n : ℕ) (h : List (Entry A)) → IsPermutation (all_entries h) (entries_of n h ++ all_entries (without n h))
  unfolding without
  cut_out n [] = IsPermutation-refl []
  cut_out n (e ∷ h) = here (eqb e.0 n) (cut_out n h)
    where
      here : (b : Bool) → IsPermutation (all_entries h) (entries_of n h ++ all_entries (without n h)) → IsPermutation (e.1 ∷ all_entries h) (cond b (e.1 ∷ entries_of n h) (entries_of n h) ++ all_entries (cond b (without n h) (e ∷ without n h)))
      here true p = IsPermutation-cons e.1 (all_entries h) (entries_of n h ++ all_entries (without n h)) p
      here false p =
          let xs = entries_of n h in
          let ys = all_entries (without n h) in
          IsPermutation-trans (e.1 ∷ all_entries h) (e.1 ∷ (xs ++ ys)) (xs ++ e.1 ∷ ys)
          (IsPermutation-cons e.1 (all_entries h) (xs ++ ys) p)
          (IsPermutation-sym (xs ++ e.1 ∷ ys) (e.1 ∷ (xs ++ ys)) (IsPermutation-middle xs e.1 ys))

  without_same : (n : ℕ) (h : List (Entry A)) → entries_of n (without n h) ≡ []
  unfolding without
  without_same n [] = refl
  without_same n (e ∷ h) = here (eqb e.0 n) refl (without_same n h)
    where
      here : (b : Bool) → eqb e.0 n ≡ b → entries_of n (without n h) ≡ [] → entries_of n (cond b (without n h) (e ∷ without n h)) ≡ []
      here true t p = p
      here false t p = ap (λ c. cond c (e.1 ∷ entries_of n (without n h)) (entries_of n (without n h))) t ∙ p

  without_other : (n m : ℕ) (h : List (Entry A)) → m ≢ n → entries_of m (without n h) ≡ entries_of m h
  unfolding without
  without_other n m [] ne = refl
  without_other n m (e ∷ h) ne = here (eqb e.0 n) refl (without_other n m h ne)
    where
      here : (b : Bool) → eqb e.0 n ≡ b → entries_of m (without n h) ≡ entries_of m h → entries_of m (cond b (without n h) (e ∷ without n h)) ≡ cond (eqb e.0 m) (e.1 ∷ entries_of m h) (entries_of m h)
      here true t p =
          let other : eqb e.0 m ≡ false = ne_eqb e.0 m (λ f. ne (sym f ∙ eqb-true e.0 n t)) in
          p ∙ sym (ap (λ c. cond c (e.1 ∷ entries_of m h) (entries_of m h)) other)
      here false t p = ap (λ l. cond (eqb e.0 m) (e.1 ∷ l) l) p

  IsCons : List A → Type 0
  IsCons [] = ⊥
  IsCons (x ∷ xs) = Unit {0}

  no_entries : (h : List (Entry A)) → ((n : ℕ) → entries_of n h ≡ []) → h ≡ []
  unfolding IsCons
  no_entries [] f = refl
  no_entries (e ∷ h) f = absurd (subst IsCons (sym (ap (λ b. cond b (e.1 ∷ entries_of e.0 h) (entries_of e.0 h)) (eq-eqb e.0 e.0 refl)) ∙ f e.0) tt)

  -- where each of these parts has its entries, no number stands twice, and no other number has an entry
  pub ended_is_all : (ps : List (Part A)) (h : List (Entry A)) → ((k : ℕ) (q : Part A) → get_elem? ps k ≡ some q → entries_of q.number h ≡ q.own) → Apart ps → ((n : ℕ) → Ended ps n ⊎ (entries_of n h ≡ [])) → IsPermutation (all_entries h) (owned ps)
  unfolding owned
  ended_is_all [] h own apart other =
      let none : h ≡ [] = no_entries h (λ n. ⊎_elim (λ (x : Ended [] n). absurd (some-ne-none x.1 (sym x.2))) (λ e. e) (other n)) in
      subst (λ l. IsPermutation (all_entries l) []) (sym none) (IsPermutation-refl [])
  ended_is_all (p ∷ ps) h own apart other =
      let w = without p.number h in
      let is : entries_of p.number h ≡ p.own = own 0 p refl in
      let ne : (k : ℕ) (q : Part A) → get_elem? ps k ≡ some q → q.number ≢ p.number = λ k q e f. let z : 0 ≡ suc k = apart 0 (suc k) p q refl e (sym f) in absurd (omega arith) in
      let rest : IsPermutation (all_entries w) (owned ps) = ended_is_all ps w
      (λ k q e. without_other p.number q.number h (ne k q e) ∙ own (suc k) q e)
      (λ k l v u e f g. let z : suc k ≡ suc l = apart (suc k) (suc l) v u e f g in omega arith)
      (λ n. dite (ℕ_discrete n p.number)
      (λ e. inr (subst (λ m. entries_of m w ≡ []) (sym e) (without_same p.number h)))
      (λ e. ⊎_elim
      (λ (x : Ended (p ∷ ps) n). later n e x.0 x.1 x.2 x.3)
      (λ f. inr (without_other p.number n h e ∙ f)) (other n)))
      in
      IsPermutation-trans (all_entries h) (p.own ++ all_entries w) (p.own ++ owned ps)
      (subst (λ l. IsPermutation (all_entries h) (l ++ all_entries w)) is (cut_out p.number h))
      (IsPermutation-append_right p.own (all_entries w) (owned ps) rest)
    where
      later : (n : ℕ) → n ≢ p.number → (k : ℕ) (v : Part A) → get_elem? (p ∷ ps) k ≡ some v → v.number ≡ n → Ended ps n ⊎ (entries_of n (without p.number h) ≡ [])
      later n ne zero v e f = absurd (ne (sym f ∙ ap (λ (x : Part A). x.number) (sym (some-injective p v e))))
      later n ne (suc k) v e f = inl (k, v, e, f)
