-- Names as images have them. A plain one is spelled as texts spell it, NAMEs and keywords alike (3D manual, "Lexical
-- structure"); in a version with dots a name may also be two NAMEs, no keywords, joined by one (own rule).
use Rattle.std.specs.Prelude.{ℕ, Bool, false, ◌&&◌, ◌||◌, not, List, [], ◌∷◌, nat_le, ◌==◌, length, take_while}
use Rattle.std.specs.List.{before_first, after_first}
use Rattle.td_num.specs.Text.{is_dot}
use Rattle.td_lexer.specs.Spellings.{is_keyword}
use Rattle.td_image.specs.declared.version.ImageVersion.{ImageVersion}
use Rattle.td_image.specs.Versions.{has_dots}

-- a letter or `_`
abbrev pub is_letter : ℕ → Bool
is_letter b = (nat_le 97 b && nat_le b 122) || (nat_le 65 b && nat_le b 90) || (b == 95)

abbrev pub is_letter_or_digit : ℕ → Bool
is_letter_or_digit b = is_letter b || (nat_le 48 b && nat_le b 57)

-- a letter or `_`, and then letters, digits and `_`
abbrev pub is_name : List ℕ → Bool
is_name [] = false
is_name (b ∷ bs) = is_letter b && (length (take_while is_letter_or_digit bs) == length bs)

-- and no keyword
abbrev pub is_plain : List ℕ → Bool
is_plain name = is_name name && not (is_keyword name)

-- `M.x`: what stands before the first dot, and what stands behind it
abbrev pub are_two_names : List ℕ → Bool
are_two_names name = is_plain (before_first is_dot name) && is_plain (after_first is_dot name)

-- a name of a version
abbrev pub is_image_name : ImageVersion → List ℕ → Bool
is_image_name v name = is_name name || (has_dots v && are_two_names name)
