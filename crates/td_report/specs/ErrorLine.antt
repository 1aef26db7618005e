-- The lines of errors, as bytes (own rule).
use Rattle.std.specs.Prelude.{ℕ, ◌+◌, Bool, ◌==◌, not, List, [], ◌∷◌, ◌++◌, Option, Some, None, take, count_by, codes, decimal}
use Rattle.std.specs.List.{suffix_len}

abbrev pub is_line_feed : ℕ → Bool
is_line_feed byte = byte == 10

abbrev pub is_no_line_feed : ℕ → Bool
is_no_line_feed byte = not (is_line_feed byte)

-- the line of place `at` of a text: 1, and one more for each line feed before it
abbrev pub line_at : List ℕ → ℕ → ℕ
line_at text at = 1 + count_by is_line_feed (take at text)

-- its column: 1, and one more for each byte that stands before it and after the last line feed
abbrev pub column_at : List ℕ → ℕ → ℕ
column_at text at = 1 + suffix_len is_no_line_feed (take at text)

-- a space and `LINE:COLUMN`, where there is a place
abbrev pub place_words : List ℕ → Option ℕ → List ℕ
place_words text None = []
place_words text (Some at) = codes " " ++ decimal (line_at text at) ++ codes ":" ++ decimal (column_at text at)

-- words after a space; nothing, where there are none
abbrev pub after_space : List ℕ → List ℕ
after_space [] = []
after_space (first ∷ more) = codes " " ++ first ∷ more

-- `error CODE LINE:COLUMN WORDS` and a line feed
unfoldable pub error_line : List ℕ → Option ℕ → List ℕ → List ℕ → List ℕ
error_line text at code words = codes "error " ++ code ++ place_words text at ++ after_space words ++ codes "\n"
