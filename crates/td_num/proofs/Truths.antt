-- Truth values, tests and order of numbers, and the end of a list. Cited by other crates.
use Rattle.std.proofs.Common.{◌≡◌, ◌≤◌, ◌<◌, ◌⊎◌, ◌||◌, ◌&&◌, inl, inr, ℕ, Bool, true, false, nat_eq, List, [], length, drop, refl, sym, true≢false, arith}
use Rattle.std.proofs.lemmas.Bool.Decides.{nat_tests}
use Rattle.std.proofs.Math.ListN.{drop_of_length-le}

pub eq_is : (a p : ℕ) → nat_eq a p ≡ true → a ≡ p
eq_is a p h = grind (arith, nat_tests)

pub is_eq : (a b : ℕ) → a ≡ b → nat_eq a b ≡ true
is_eq a b h = grind (arith, h)

pub or_left : (x y : Bool) → x ≡ true → (x || y) ≡ true
or_left true y h = refl
or_left false y h = absurd cc

pub or_right : (x y : Bool) → y ≡ true → (x || y) ≡ true
or_right true y h = refl
or_right false y h = h

pub or_cases : (x y : Bool) → (x || y) ≡ true → (x ≡ true) ⊎ (y ≡ true)
or_cases true y h = inl refl
or_cases false y h = inr h

pub or_assoc : (a b c : Bool) → ((a || b) || c) ≡ (a || (b || c))
or_assoc true b c = refl
or_assoc false b c = refl

pub both_true : (s t : Bool) → (s && t) ≡ true → (s ≡ true) × (t ≡ true)
both_true true true e = (refl, refl)
both_true true false e = absurd (true≢false (sym e))
both_true false t e = absurd (true≢false (sym e))

pub false_by : (x : Bool) → (x ≡ true → ⊥) → x ≡ false
false_by true h = absurd (h refl)
false_by false h = refl

-- behind the end nothing is left
pub all_dropped : {A : Type 0} (xs : List A) (i : ℕ) → length xs ≤ i → drop i xs ≡ []
all_dropped xs i h = drop_of_length-le xs h

pub lt_le : (a b c : ℕ) → a < b → b ≤ c → a < c
lt_le a b c h l = omega arith

pub le_le : (a b c : ℕ) → a ≤ b → b ≤ c → a ≤ c
le_le a b c h l = omega arith
