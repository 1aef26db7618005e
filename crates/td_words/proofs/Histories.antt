-- A history that is one step longer.
use Rattle.std.proofs.Common.{◌≡◌, ◌≢◌, ℕ, Bool, true, false, eqb, cond, eq-eqb, ne_eqb, List, [], ◌∷◌, ◌++◌, refl, ap}
use Rattle.td_words.specs.declared.view.Access.{Access}
use Rattle.td_words.specs.History.{Entry, after, Gives, memory_after, IsHistory, steps_of}

pub memory_after-push : (words : List ℕ) (h : List Entry) (e : Entry) → memory_after words (h ++ e ∷ []) ≡ after (memory_after words h) e.1
memory_after-push words [] e = refl
memory_after-push words (x ∷ h) e = memory_after-push (after words x.1) h e

pub IsHistory-push : (words : List ℕ) (h : List Entry) (e : Entry) → IsHistory words h → Gives (memory_after words h) e.1 → IsHistory words (h ++ e ∷ [])
IsHistory-push words [] e l g = (g, tt)
IsHistory-push words (x ∷ h) e l g = (l.0, IsHistory-push (after words x.1) h e l.1 g)

maybe_more : (b : Bool) (x : Access) (l m k : List Access) → l ≡ m ++ k → cond b (x ∷ l) l ≡ cond b (x ∷ m) m ++ k
maybe_more true x l m k e = ap (λ t. x ∷ t) e
maybe_more false x l m k e = e

pub steps_of-same : (n : ℕ) (h : List Entry) (a : Access) → steps_of n (h ++ (n, a) ∷ []) ≡ steps_of n h ++ a ∷ []
steps_of-same n [] a = ap (λ b. cond b (a ∷ []) []) (eq-eqb n n refl)
steps_of-same n (x ∷ h) a = maybe_more (eqb x.0 n) x.1 (steps_of n (h ++ (n, a) ∷ [])) (steps_of n h) (a ∷ []) (steps_of-same n h a)

pub steps_of-other : (n : ℕ) (h : List Entry) (e : Entry) → e.0 ≢ n → steps_of n (h ++ e ∷ []) ≡ steps_of n h
steps_of-other n [] e ne = ap (λ b. cond b (e.1 ∷ []) []) (ne_eqb e.0 n ne)
steps_of-other n (x ∷ h) e ne = ap (λ l. cond (eqb x.0 n) (x.1 ∷ l) l) (steps_of-other n h e ne)
