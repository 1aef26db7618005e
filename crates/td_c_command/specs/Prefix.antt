-- What may begin names of C (own rule). A character's byte is its ASCII code.
use Rattle.std.specs.Prelude.{◌≡◌, ℕ, Bool, true, ◌&&◌, ◌||◌, nat_eq, nat_le, List, [], ◌∷◌}
use Rattle.std.specs.List.{All}

-- `a` to `z` or `A` to `Z`
abbrev pub is_letter : ℕ → Bool
is_letter b = (nat_le 97 b && nat_le b 122) || (nat_le 65 b && nat_le b 90)

-- a letter, `0` to `9` or `_`
abbrev pub is_name_byte : ℕ → Bool
is_name_byte b = is_letter b || (nat_le 48 b && nat_le b 57) || nat_eq b 95

-- a letter, then letters, digits and `_`
abbrev pub IsPrefix : List ℕ → Type 0
IsPrefix [] = ⊥
IsPrefix (b ∷ bytes) = (is_letter b ≡ true) × All (λ x. is_name_byte x ≡ true) bytes
