-- Where the words that were loaded come from.
use Rattle.std.proofs.Common.{◌≡◌, ◌⊎◌, ℕ, zero, suc, Bool, true, false, eqb, cond, List, [], ◌∷◌, length, set, refl, sym, ap, ◌∙◌, subst, inl, inr, ⊎_elim, eq-eqb, ne_eqb}
use Rattle.std.specs.Prelude.{slice_index}
use mathlib.Core.Option.{some, some-injective, some-ne-none}
use mathlib.Core.Logic.{dite}
use native.Mathlib.Decide.{ℕ_discrete}
use lib.ListN.{get_elem?}
use Rattle.td_words.specs.declared.view.Access.{Access}
use Rattle.td_words.specs.declared.view.Access.TheVariants.{Load, Store}
use Rattle.td_words.specs.declared.view.SeatView.{SeatView}
use Rattle.td_words.specs.declared.view.HostView.{HostView}
use Rattle.td_words.specs.History.{Entry, after, Gives, IsHistory, steps_of, Has}
use Rattle.td_words.specs.Gathered.{Ended, IsHistoryOf, Fetched}

index_set : (l : List ℕ) (j v i : ℕ) → (slice_index (set l j v) i ≡ slice_index l i) ⊎ ((j ≡ i) × (slice_index (set l j v) i ≡ v))
index_set [] j v i = inl refl
index_set (x ∷ xs) zero v zero = inr (refl, refl)
index_set (x ∷ xs) zero v (suc i) = inl refl
index_set (x ∷ xs) (suc j) v zero = inl refl
index_set (x ∷ xs) (suc j) v (suc i) = ⊎_elim (λ t. inl t) (λ (t : (j ≡ i) × (slice_index (set xs j v) i ≡ v)). inr (ap suc t.0, t.1)) (index_set xs j v i)

From : List ℕ → List Entry → ℕ → ℕ → Type 0
From words h i w = (w ≡ slice_index words i) ⊎ ((n : ℕ) × Has h (n, Store i w))

later : (words : List ℕ) (e : Entry) (h : List Entry) (i w n : ℕ) → Has h (n, Store i w) → From words (e ∷ h) i w
unfolding From
later words e h i w n t = inr (n, (suc t.0, t.1))

before : (words : List ℕ) (n : ℕ) (a : Access) (h : List Entry) (i w : ℕ) → From (after words a) h i w → From words ((n, a) ∷ h) i w
unfolding From
before words n (Load j x) h i w t = ⊎_elim (λ s. inl s) (λ (s : (m : ℕ) × Has h (m, Store i w)). later words (n, Load j x) h i w s.0 s.1) t
before words n (Store j x) h i w t = ⊎_elim
    (λ (s : w ≡ slice_index (set words j x) i). ⊎_elim
    (λ (r : slice_index (set words j x) i ≡ slice_index words i). inl (s ∙ r))
    (λ (r : (j ≡ i) × (slice_index (set words j x) i ≡ x)). inr (n, (0, λ m. some (n, Store (r.0 m) (sym (s ∙ r.1) m)))))
    (index_set words j x i))
    (λ (s : (m : ℕ) × Has h (m, Store i w)). later words (n, Store j x) h i w s.0 s.1)
    t

gives : (words : List ℕ) (a b : Access) (i w : ℕ) → a ≡ Load i w → Gives words a → w ≡ slice_index words i
gives words a b i w e g = subst (Gives words) e g

from : (words : List ℕ) (h : List Entry) (n i w k : ℕ) → IsHistory words h → get_elem? h k ≡ some (n, Load i w) → From words h i w
unfolding From
from words [] n i w k l e = absurd (some-ne-none (n, Load i w) (sym e))
from words (x ∷ h) n i w zero l e = inl (gives words x.1 x.1 i w (ap (λ (y : Entry). y.1) (some-injective x (n, Load i w) e)) l.0)
from words (x ∷ h) n i w (suc k) l e = before words x.0 x.1 h i w (from (after words x.1) h n i w k l.1 e)

-- a step of a seat stands in the history
in_log : (n : ℕ) (h : List Entry) (a : Access) (k : ℕ) → get_elem? (steps_of n h) k ≡ some a → Has h (n, a)
in_log n [] a k e = absurd (some-ne-none a (sym e))
in_log n (x ∷ h) a k e = dite (ℕ_discrete x.0 n)
    (λ same. here (λ m f. in_log n h a m f) k (ap (λ b. get_elem? (cond b (x.1 ∷ steps_of n h) (steps_of n h)) k) (sym (eq-eqb x.0 n same)) ∙ e) same)
    (λ other. let t = in_log n h a k (ap (λ b. get_elem? (cond b (x.1 ∷ steps_of n h) (steps_of n h)) k) (sym (ne_eqb x.0 n other)) ∙ e) in (suc t.0, t.1))
  where
    here : ((m : ℕ) → get_elem? (steps_of n h) m ≡ some a → Has h (n, a)) → (k : ℕ) → get_elem? (x.1 ∷ steps_of n h) k ≡ some a → x.0 ≡ n → Has (x ∷ h) (n, a)
    here r zero e same = (0, λ m. some (same m, some-injective x.1 a e m))
    here r (suc k) e same = let t = r k e in (suc t.0, t.1)

-- an entry of the history is a step of its seat
in_steps : (n : ℕ) (h : List Entry) (a : Access) (k : ℕ) → get_elem? h k ≡ some (n, a) → Has (steps_of n h) a
in_steps n [] a k e = absurd (some-ne-none (n, a) (sym e))
in_steps n (x ∷ h) a zero e =
    let p = some-injective x (n, a) e in
    let b : eqb x.0 n ≡ true = eq-eqb x.0 n (ap (λ (y : Entry). y.0) p) in
    (0, ap (λ t. get_elem? (cond t (x.1 ∷ steps_of n h) (steps_of n h)) 0) b ∙ ap (λ (y : Entry). some y.1) p)
in_steps n (x ∷ h) a (suc k) e = more (eqb x.0 n) (in_steps n h a k e)
  where
    more : (b : Bool) → Has (steps_of n h) a → Has (cond b (x.1 ∷ steps_of n h) (steps_of n h)) a
    more true t = (suc t.0, t.1)
    more false t = t

pub fetches : (h : HostView) → ((log : List Entry) × IsHistoryOf h log) → length h.ended ≡ h.made → Fetched h
unfolding From
fetches h (log, t) all k v i w at has =
    let mine = t.steps k v at in
    let there = in_log v.number log (Load i w) has.0 (ap (λ l. get_elem? l has.0) mine.1 ∙ has.1) in
    ⊎_elim (λ s. inl s) (λ (s : (n : ℕ) × Has log (n, Store i w)). inr (stored s.0 s.1 (t.no_other all s.0))) (from h.opened log v.number i w there.0 t.legal there.1)
  where
    stored : (n : ℕ) → Has log (n, Store i w) → Ended h.ended n ⊎ (steps_of n log ≡ []) → (l : ℕ) × (u : SeatView) × (get_elem? h.ended l ≡ some u) × Has u.steps (Store i w)
    stored n s (inl e) =
        let p = in_steps n log (Store i w) s.0 s.1 in
        (e.0, e.1, e.2, (p.0, ap (λ l. get_elem? l p.0) (sym (t.steps e.0 e.1 e.2).1 ∙ ap (λ m. steps_of m log) e.3) ∙ p.1))
    stored n s (inr e) = let p = in_steps n log (Store i w) s.0 s.1 in absurd (some-ne-none (Store i w) (sym p.1 ∙ ap (λ l. get_elem? l p.0) e))
