-- The head of a roll, and what its view tells.
use Rattle.std.proofs.Common.{◌≡◌, ◌≢◌, ℕ, zero, suc, List, ◌∷◌, Option, None, Some, refl, sym, ap, ◌∙◌, subst, inl, inr, ⊎_elim, arith, true≢false}
use mathlib.Core.Option.{none, some, some-injective, some-ne-none}
use mathlib.Core.Option as maybe
use lib.ListN.{get_elem?}
use Rattle.td_ring.specs.declared.roll.Part.{Part}
use Rattle.td_ring.specs.declared.roll.Head.{Head}
use Rattle.td_ring.specs.Roll.{Entry, entries_of, Ended, Apart, count_of, Roll}
use Rattle.td_ring.specs.Heads.{has_head, HasHead, AreInLog}
use Rattle.td_ring.proofs.RollGathers.{tells, settles}

pub is_none : {A : Type 0} (o : Option A) → ((x : A) → o ≡ Some x → ⊥) → o ≡ None
is_none None f = refl
is_none (Some x) f = absurd (f x refl)

pub head_in : {A : Type 0} (a b : Option (Head A)) → a ≡ b → HasHead b → (h : Head A) × (a ≡ Some h)
head_in {A} a b e t = found a (ap has_head e ∙ t)
  where
    found : (o : Option (Head A)) → HasHead o → (h : Head A) × (o ≡ Some h)
    found (Some h) f = (h, refl)
    found None f = absurd (true≢false (sym f))

module _ {A V : Type 0} (head : V → maybe.Option (Head A)) (part : V → maybe.Option (Part A)) where
  -- the head's view tells of its own part and of those gathered
  pub are_in_log : (views : List V) (log : List (Entry A)) → Roll head part views log → (j : ℕ) (v : V) → get_elem? views j ≡ some v
      → (h : Head A) (p : Part A) → head v ≡ some h → part v ≡ some p → AreInLog log h p
  are_in_log views log r j v at h p is is_part =
      let t = tells head part views log r j v h at is in
      let mine = r.each_part j v p at is_part in
      let one : count_of (part v) ≡ 1 = ap count_of is_part in
      let y = r.each_head j v h at is in
      let away : (k : ℕ) (q : Part A) → get_elem? h.ended k ≡ some q → q.number ≢ p.number = λ k q e f.
      let gone = subst (λ (z : Head A). get_elem? z.ended k ≡ some q → r.place_of q.number ≡ none) (sym y.1) (λ e. (r.each_ended k q e).1) e in
      some-ne-none j (sym mine.1 ∙ (ap r.place_of (sym f) ∙ gone))
      in
      record {
        each = each mine.0.1 t.0;
        apart = apart away t.1;
        no_other = λ whole n. ⊎_elim
            (λ (e : Ended h.ended n). inl (suc e.0, e.1, e.2, e.3))
            (λ s. ⊎_elim
            (λ (q : (p' : Part A) × (part v ≡ some p') × (p'.number ≡ n)). inl (0, p, refl, ap (λ (z : Part A). z.number) (some-injective p q.0 (sym is_part ∙ q.1)) ∙ q.2))
            (λ e. inr e) s)
            (settles head part views log r j v h at is (omega arith) n);
      }
    where
      each : entries_of p.number log ≡ p.own → ((k : ℕ) (q : Part A) → get_elem? h.ended k ≡ some q → entries_of q.number log ≡ q.own)
          → (k : ℕ) (q : Part A) → get_elem? (p ∷ h.ended) k ≡ some q → entries_of q.number log ≡ q.own
      each own others zero q e = subst (λ (z : Part A). entries_of z.number log ≡ z.own) (some-injective p q e) own
      each own others (suc k) q e = others k q e

      apart : ((k : ℕ) (q : Part A) → get_elem? h.ended k ≡ some q → q.number ≢ p.number) → Apart h.ended → Apart (p ∷ h.ended)
      apart away t zero zero a b e f g = refl
      apart away t zero (suc l) a b e f g = absurd (away l b f (sym g ∙ ap (λ (z : Part A). z.number) (sym (some-injective p a e))))
      apart away t (suc k) zero a b e f g = absurd (away k a e (g ∙ ap (λ (z : Part A). z.number) (sym (some-injective p b f))))
      apart away t (suc k) (suc l) a b e f g = ap suc (t k l a b e f g)
