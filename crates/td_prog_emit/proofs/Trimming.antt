-- Names without `_` at their ends.
use Rattle.std.proofs.Common.{◌≡◌, ℕ, List, [], ◌∷◌, ◌++◌, Bool, true, false, cond, nat_eq, eqb-true, refl, ap}
use Rattle.td_prog_text.specs.Names.{trimmed, trimmed_by}

pub trimmed_push : (xs : List ℕ) → trimmed (xs ++ 95 ∷ []) ≡ trimmed xs
trimmed_push [] = refl
trimmed_push (x ∷ xs) = ap (trimmed_by x) (trimmed_push xs)

one_kept : (b : ℕ) (z : Bool) → nat_eq b 95 ≡ z → ((front : List ℕ) → b ∷ [] ≡ front ++ 95 ∷ [] → ⊥) → cond z [] (b ∷ []) ≡ b ∷ []
one_kept b true e h = absurd (h [] (ap (λ (n : ℕ). n ∷ []) (eqb-true b 95 e)))
one_kept b false e h = refl

pub kept : (s : List ℕ) → ((front : List ℕ) → s ≡ front ++ 95 ∷ [] → ⊥) → trimmed s ≡ s
kept [] h = refl
kept (b ∷ []) h = one_kept b (nat_eq b 95) refl h
kept (b ∷ c ∷ cs) h = ap (trimmed_by b) (kept (c ∷ cs) (λ front e. h (b ∷ front) (ap (λ (l : List ℕ). b ∷ l) e)))
