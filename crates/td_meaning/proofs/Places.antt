-- Places among those that are read. Cited by other crates.
use Rattle.std.proofs.Common.{◌≡◌, ℕ, zero, suc, ◌+◌, ◌<◌, ◌≤◌, List, [], ◌∷◌, ◌++◌, refl, sym, subst, arith, inl, inr}
use Rattle.std.specs.Prelude.{◌⊎◌, slice_index}
use Rattle.std.proofs.lemmas.Bool.{cases_lt}
use Rattle.td_num.specs.Numbers.{places_from}
use Rattle.td_num.specs.Lists.{Each}
use Rattle.td_meaning.specs.Deciding.{SameAt}
use Rattle.td_meaning.specs.Forward.{IsAt}

pub at_left : (k : ℕ) (xs ys : List ℕ) → IsAt k xs → IsAt k (xs ++ ys)
at_left k [] ys h = absurd h
at_left k (x ∷ xs) ys (inl e) = inl e
at_left k (x ∷ xs) ys (inr h) = inr (at_left k xs ys h)

pub at_right : (k : ℕ) (xs ys : List ℕ) → IsAt k ys → IsAt k (xs ++ ys)
at_right k [] ys h = h
at_right k (x ∷ xs) ys h = inr (at_right k xs ys h)

pub at_cases : (k : ℕ) (xs ys : List ℕ) → IsAt k (xs ++ ys) → IsAt k xs ⊎ IsAt k ys
at_cases k [] ys h = inr h
at_cases k (x ∷ xs) ys (inl e) = inl (inl e)
at_cases k (x ∷ xs) ys (inr h) = elim (at_cases k xs ys h) [ inl a ↦ inl (inr a) | inr b ↦ inr b ]

pub at_each : (P : ℕ → Type 0) (k : ℕ) (xs : List ℕ) → Each P xs → IsAt k xs → P k
at_each P k [] h i = absurd i
at_each P k (x ∷ xs) h (inl e) = subst P (sym e) h.0
at_each P k (x ∷ xs) h (inr i) = at_each P k xs h.1 i

pub in_places : (k p w : ℕ) → p ≤ k → k < p + w → IsAt k (places_from p w)
in_places k p zero le lt = absurd (omega (arith, le, lt))
in_places k p (suc w) le lt = elim (cases_lt p k) [
  | inl past ↦ inr (in_places k (p + 1) w (omega (arith, past)) (omega (arith, lt)))
  | inr here ↦ inl (omega (arith, here, le))
]

pub from_places : (k p w : ℕ) → IsAt k (places_from p w) → p ≤ k
from_places k p zero h = absurd h
from_places k p (suc w) (inl e) = omega (arith, e)
from_places k p (suc w) (inr h) = let rest = from_places k (p + 1) w h in omega (arith, rest)

-- all that is read satisfies a test that each place read does
pub same_at_each : (xs b c : List ℕ) → ((k : ℕ) → IsAt k xs → slice_index b k ≡ slice_index c k) → SameAt xs b c
same_at_each [] b c h = tt
same_at_each (x ∷ xs) b c h = (h x (inl refl), same_at_each xs b c (λ k i. h k (inr i)))
