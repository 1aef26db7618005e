-- Names in C's text (own rule): identifiers (C11, 6.4.2.1), and names between quotes (6.4.5).
use Rattle.std.specs.Prelude.{◌≡◌, ℕ, Bool, ◌&&◌, ◌||◌, true, List, [], ◌∷◌, nat_eq, nat_le}
use Rattle.td_num.specs.Lists.{Each}

-- a letter or `_`; a digit
abbrev pub is_letter : ℕ → Bool
is_letter b = (nat_le 97 b && nat_le b 122) || (nat_le 65 b && nat_le b 90) || nat_eq b 95

abbrev pub is_digit : ℕ → Bool
is_digit b = nat_le 48 b && nat_le b 57

abbrev pub IsIdentifier : List ℕ → Type 0
IsIdentifier [] = ⊥
IsIdentifier (b ∷ bs) = (is_letter b ≡ true) × Each (λ c. (is_letter c || is_digit c) ≡ true) bs

-- letters, digits, `_` and dots: between quotes they stand for themselves, and none ends the string
abbrev pub IsName : List ℕ → Type 0
IsName name = Each (λ b. (is_letter b || is_digit b || nat_eq b 46) ≡ true) name
