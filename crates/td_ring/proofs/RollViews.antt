-- What changes where one view is set, and where one is put behind the others.
use Rattle.std.proofs.Common.{◌≡◌, ◌≢◌, ℕ, zero, suc, ◌+◌, ◌<◌, ◌≤◌, Bool, true, false, eqb, cond, eq-eqb, ne_eqb, List, [], ◌∷◌, ◌++◌, set, refl, sym, ap, ◌∙◌, subst, arith}
use mathlib.Core.Option.{Option, none, some, some-injective, some-ne-none}
use mathlib.Core.Logic.{dite}
use native.Mathlib.Decide.{ℕ_discrete}
use lib.ListN.{get_elem?}
use Rattle.atomic_table.proofs.Lists.{set_else, at_longer}
use Rattle.td_num.proofs.Lists.{set_at}
use Rattle.td_ring.specs.declared.roll.Part.{Part}
use Rattle.td_ring.specs.declared.roll.Head.{Head}
use Rattle.td_ring.specs.Roll.{Entry, entries_of, all_entries, count_of, parts_out, IsHeld}

-- ---- logs
module _ {A : Type 0} where
  pub maybe_more : (b : Bool) (x : A) (l m k : List A) → l ≡ m ++ k → cond b (x ∷ l) l ≡ cond b (x ∷ m) m ++ k
  maybe_more true x l m k e = ap (λ t. x ∷ t) e
  maybe_more false x l m k e = e

  pub entries_of-same : (n : ℕ) (h : List (Entry A)) (a : A) → entries_of n (h ++ (n, a) ∷ []) ≡ entries_of n h ++ a ∷ []
  entries_of-same n [] a = ap (λ b. cond b (a ∷ []) []) (eq-eqb n n refl)
  entries_of-same n (x ∷ h) a = maybe_more (eqb x.0 n) x.1 (entries_of n (h ++ (n, a) ∷ [])) (entries_of n h) (a ∷ []) (entries_of-same n h a)

  pub entries_of-other : (n : ℕ) (h : List (Entry A)) (e : Entry A) → e.0 ≢ n → entries_of n (h ++ e ∷ []) ≡ entries_of n h
  entries_of-other n [] e ne = ap (λ b. cond b (e.1 ∷ []) []) (ne_eqb e.0 n ne)
  entries_of-other n (x ∷ h) e ne = ap (λ l. cond (eqb x.0 n) (x.1 ∷ l) l) (entries_of-other n h e ne)

  pub all_entries-push : (h : List (Entry A)) (e : Entry A) → all_entries (h ++ e ∷ []) ≡ all_entries h ++ e.1 ∷ []
  all_entries-push [] e = refl
  all_entries-push (x ∷ h) e = ap (λ l. x.1 ∷ l) (all_entries-push h e)

-- ---- numbers
pub only : {V : Type 0} (P : ℕ → V → Type 0) (v : V) → P 0 v → (i : ℕ) (u : V) → get_elem? (v ∷ []) i ≡ some u → P i u
only P v p zero u e = subst (P 0) (some-injective v u e) p
only P v p (suc i) u e = absurd (some-ne-none u (sym e))

pub reloc : ℕ → ℕ → Option ℕ → Option ℕ
reloc i j none = none
reloc i j (some k) = cond (eqb k i) (some j) (some k)

pub reloc_here : (i j : ℕ) → reloc i j (some i) ≡ some j
unfolding reloc
reloc_here i j = ap (λ b. cond b (some j) (some i)) (eq-eqb i i refl)

pub reloc_else : (i j k : ℕ) → k ≢ i → reloc i j (some k) ≡ some k
unfolding reloc
reloc_else i j k ne = ap (λ b. cond b (some j) (some k)) (ne_eqb k i ne)

pub reloc_none : (i j : ℕ) → reloc i j none ≡ none
unfolding reloc
reloc_none i j = refl

module _ {A V : Type 0} (head : V → Option (Head A)) (part : V → Option (Part A)) where
  pub out_set : (vs : List V) (j : ℕ) (v w : V) → get_elem? vs j ≡ some v → parts_out head part (set vs j w) + count_of (part v) ≡ parts_out head part vs + count_of (part w)
  out_set [] j v w e = absurd (some-ne-none v (sym e))
  out_set (x ∷ xs) zero v w e = let q : count_of (part x) ≡ count_of (part v) = ap (λ y. count_of (part y)) (some-injective x v e) in omega arith
  out_set (x ∷ xs) (suc j) v w e = let r = out_set xs j v w e in omega arith

  pub out-push : (vs : List V) (v : V) → parts_out head part (vs ++ v ∷ []) ≡ parts_out head part vs + count_of (part v)
  out-push [] v = omega arith
  out-push (x ∷ xs) v = let r = out-push xs v in omega arith

  pub still_out : (vs : List V) (j : ℕ) (v : V) (p : Part A) → get_elem? vs j ≡ some v → part v ≡ some p → 0 < parts_out head part vs
  still_out [] j v p e f = absurd (some-ne-none v (sym e))
  still_out (x ∷ xs) zero v p e f = let q : count_of (part x) ≡ 1 = ap (λ y. count_of (part y)) (some-injective x v e) ∙ ap count_of f in omega arith
  still_out (x ∷ xs) (suc j) v p e f = let r = still_out xs j v p e f in omega arith

  -- one view changes, and its number stays
  pub held_set : (vs : List V) (ended : List (Part A)) (j : ℕ) (v w : V) (n : ℕ) → get_elem? vs j ≡ some v
      → ((p : Part A) → part v ≡ some p → (q : Part A) × (part w ≡ some q) × (q.number ≡ p.number)) → (o : Option ℕ) → IsHeld head part vs ended n o → IsHeld head part (set vs j w) ended n o
  held_set vs ended j v w n at keep none t = t
  held_set vs ended j v w n at keep (some i) t = dite (ℕ_discrete i j)
      (λ e.
      let is : t.0 ≡ v = some-injective t.0 v (sym t.2 ∙ (ap (get_elem? vs) e ∙ at)) in
      let q = keep t.1 (ap part (sym is) ∙ t.3) in
      (w, q.0, subst (λ k. get_elem? (set vs j w) k ≡ some w) (sym e) (set_at vs j v w at), q.1, q.2 ∙ t.4))
      (λ ne. (t.0, t.1, set_else vs j i w ne ∙ t.2, t.3, t.4))

  pub held_longer : (vs ws : List V) (ended : List (Part A)) (n : ℕ) → (o : Option ℕ) → IsHeld head part vs ended n o → IsHeld head part (vs ++ ws) ended n o
  held_longer vs ws ended n none t = t
  held_longer vs ws ended n (some i) t = (t.0, t.1, at_longer vs ws i t.0 t.2, t.3, t.4)

  -- a view that is no longer a part
  pub held_gone : (vs : List V) (ended more : List (Part A)) (j : ℕ) (v w : V) (n : ℕ) → get_elem? vs j ≡ some v → ((p : Part A) → part v ≡ some p → p.number ≢ n) → (o : Option ℕ) → IsHeld head part vs ended n o → IsHeld head part (set vs j w) (ended ++ more) n o
  held_gone vs ended more j v w n at gone none t = (t.0, t.1, at_longer ended more t.0 t.1 t.2, t.3)
  held_gone vs ended more j v w n at gone (some i) t = (
    t.0,
    t.1,
    set_else vs j i w (λ e. gone t.1 (ap part (sym (some-injective t.0 v (sym t.2 ∙ (ap (get_elem? vs) e ∙ at)))) ∙ t.3) t.4) ∙ t.2,
    t.3,
    t.4,
  )

  -- a part moves from the place i to the place j of other views
  pub held_moved : (vs ws : List V) (ended : List (Part A)) (i j : ℕ) (u w : V) (n : ℕ) → get_elem? vs i ≡ some u → get_elem? ws j ≡ some w → part w ≡ part u
      → ((k : ℕ) (y : V) (q : Part A) → k ≢ i → get_elem? vs k ≡ some y → part y ≡ some q → get_elem? ws k ≡ some y) → (o : Option ℕ) → IsHeld head part vs ended n o → IsHeld head part ws ended n (reloc i j o)
  held_moved vs ws ended i j u w n at there same others none t = subst (IsHeld head part ws ended n) (sym (reloc_none i j)) t
  held_moved vs ws ended i j u w n at there same others (some k) t = dite (ℕ_discrete k i)
      (λ e. subst (IsHeld head part ws ended n) (sym (ap (λ z. reloc i j (some z)) e ∙ reloc_here i j))
      (w, t.1, there, same ∙ (ap part (some-injective u t.0 (sym at ∙ (ap (get_elem? vs) (sym e) ∙ t.2))) ∙ t.3), t.4))
      (λ ne. subst (IsHeld head part ws ended n) (sym (reloc_else i j k ne)) (t.0, t.1, others k t.0 t.1 ne t.2 t.3, t.3, t.4))

  pub two_out : (vs : List V) (i j : ℕ) (u v : V) (p : Part A) → i ≢ j → get_elem? vs i ≡ some u → get_elem? vs j ≡ some v → part u ≡ some p → suc (count_of (part v)) ≤ parts_out head part vs
  two_out [] i j u v p ne a b f = absurd (some-ne-none u (sym a))
  two_out (x ∷ xs) zero zero u v p ne a b f = absurd (ne refl)
  two_out (x ∷ xs) zero (suc j) u v p ne a b f = let q : count_of (part x) ≡ 1 = ap (λ y. count_of (part y)) (some-injective x u a) ∙ ap count_of f in let r = at_most xs j v b in omega arith
    where
      at_most : (ys : List V) (k : ℕ) (y : V) → get_elem? ys k ≡ some y → count_of (part y) ≤ parts_out head part ys
      at_most [] k y e = absurd (some-ne-none y (sym e))
      at_most (z ∷ zs) zero y e = let q : count_of (part z) ≡ count_of (part y) = ap (λ y. count_of (part y)) (some-injective z y e) in omega arith
      at_most (z ∷ zs) (suc k) y e = let r = at_most zs k y e in omega arith
  two_out (x ∷ xs) (suc i) zero u v p ne a b f = let q : count_of (part x) ≡ count_of (part v) = ap (λ y. count_of (part y)) (some-injective x v b) in let r = still_out xs i u p a f in omega arith
  two_out (x ∷ xs) (suc i) (suc j) u v p ne a b f = let r = two_out xs i j u v p (λ e. ne (ap suc e)) a b f in omega arith
