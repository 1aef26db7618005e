-- What is said of lists throughout (own rule).
use Rattle.std.specs.Prelude.{◌≡◌, ℕ, suc, ◌<◌, Bool, false, ◌||◌, cond, List, [], ◌∷◌, Option, Some, None, nat_eq, slice_get, slice_index}

-- it holds of each
abbrev pub Each : {A : Type 0} → (A → Type 0) → List A → Type 0
Each P [] = Unit {0}
Each P (x ∷ xs) = P x × Each P xs

-- a number is one of these
abbrev pub is_among : List ℕ → ℕ → Bool
is_among [] n = false
is_among (v ∷ vs) n = nat_eq n v || is_among vs n

-- a place one further, if there is one
abbrev pub one_more : Option ℕ → Option ℕ
one_more None = None
one_more (Some k) = Some (suc k)

-- the place of the first number that a test holds of
abbrev pub first_where : (ℕ → Bool) → List ℕ → Option ℕ
first_where test [] = None
first_where test (x ∷ xs) = cond (test x) (Some 0) (one_more (first_where test xs))

-- how many of n are looked at up to and with the first, if there is one
abbrev pub looked_at : Option ℕ → ℕ → ℕ
looked_at None n = n
looked_at (Some k) n = suc k

-- no two names have the same bytes
abbrev pub AreApart : List (List ℕ) → Type 0
AreApart names = (i j : ℕ) (name : List ℕ) → slice_get names i ≡ Some name → slice_get names j ≡ Some name → i ≡ j

-- each is a byte
abbrev pub AreBytes : List ℕ → Type 0
AreBytes message = (i : ℕ) → slice_index message i < 256
