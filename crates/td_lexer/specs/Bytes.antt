-- Sorts of bytes, and the numbers that digits spell (the grammar's page, "Tokens"). A character's byte is its ASCII code.
use Rattle.std.specs.Prelude.{ℕ, ◌+◌, ◌-◌, ◌*◌, Bool, true, false, ◌&&◌, ◌||◌, ◌==◌, nat_le, nat_lt, List, [], ◌∷◌, length, take_while, if◌then◌else◌}

-- space, tab, line feed or carriage return
abbrev pub is_blank : ℕ → Bool
is_blank b = b == 32 || b == 9 || b == 10 || b == 13

-- `0` to `9`
abbrev pub is_digit : ℕ → Bool
is_digit b = nat_le 48 b && nat_le b 57

-- `a` to `z`, `A` to `Z` or `_`
abbrev pub is_letter : ℕ → Bool
is_letter b = (nat_le 97 b && nat_le b 122) || (nat_le 65 b && nat_le b 90) || b == 95

-- a byte that a word may go on with: a letter, a digit or `_`
abbrev pub is_word_byte : ℕ → Bool
is_word_byte b = is_letter b || is_digit b

-- a byte that a word after a bracket may go on with: a letter, a digit, `_` or `-`
abbrev pub is_marked_byte : ℕ → Bool
is_marked_byte b = is_word_byte b || b == 45

-- a byte with which a word with a mark begins: `#`, `{` or `[`
abbrev pub opens : ℕ → Bool
opens b = b == 35 || b == 123 || b == 91

-- `0` to `9`, `a` to `f` or `A` to `F`
abbrev pub is_hexadecimal : ℕ → Bool
is_hexadecimal b = is_digit b || (nat_le 97 b && nat_le b 102) || (nat_le 65 b && nat_le b 70)

-- `x` or `X`
abbrev pub is_hexadecimal_mark : ℕ → Bool
is_hexadecimal_mark b = b == 120 || b == 88

-- a byte of a line: any but a line feed
abbrev pub is_in_line : ℕ → Bool
is_in_line b = if b == 10 then false else true

-- all bytes are of a sort
abbrev pub every : (ℕ → Bool) → List ℕ → Bool
every sort [] = true
every sort (b ∷ bytes) = sort b && every sort bytes

-- there is a first byte, and it is of a sort
abbrev pub first_is : (ℕ → Bool) → List ℕ → Bool
first_is sort [] = false
first_is sort (b ∷ bytes) = sort b

-- how many bytes of a sort stand at the beginning
abbrev pub run : (ℕ → Bool) → List ℕ → ℕ
run sort bytes = length (take_while sort bytes)

-- the value of a digit, hexadecimal ones in either case
abbrev pub digit_value : ℕ → ℕ
digit_value b = if nat_lt b 65 then b - 48 else (if nat_lt b 97 then b - 55 else b - 87)

-- a number, and then further digits in a base
abbrev pub value_from : ℕ → ℕ → List ℕ → ℕ
value_from base n [] = n
value_from base n (d ∷ digits) = value_from base (base * n + digit_value d) digits

-- the number that digits spell in a base
abbrev pub value_of : ℕ → List ℕ → ℕ
value_of base digits = value_from base 0 digits
