-- Pieces that stay apart: which two tokens may stand side by side without being read as other tokens.
use Rattle.std.specs.Prelude.{◌≡◌, ℕ, ◌<◌, ◌^◌, Bool, true, false, ◌&&◌, ◌||◌, ◌==◌, nat_lt, List, [], ◌∷◌, map, Option, Some, None, if◌then◌else◌}
use Rattle.td_ast.specs.declared.token.Token.{Token}
use Rattle.td_ast.specs.declared.token.TokenKind.{TokenKind}
use Rattle.td_ast.specs.declared.token.TokenKind.TheVariants.{Name, Number}
use Rattle.td_ast.specs.Kinds.{number_of_kind}
use Rattle.td_lexer.specs.Bytes.{is_word_byte, is_marked_byte, opens, first_is}
use Rattle.td_lexer.specs.Spellings.{kind_in, punctuation_of_two}
use Rattle.td_lexer.specs.Splits.{IsName, Splits, is_comment_byte}
use Rattle.td_print_layout.specs.Pieces.{Piece, Word, Blank, LineEnd, kinds_of, spelling, text_of}

-- The kinds stand in the order of the grammar's page: 30 names, numbers and keywords, then 7 words that begin with `#`, `{`
-- or `[`, then punctuation, and last `{:copy`.
abbrev pub is_word : TokenKind → Bool
is_word kind = nat_lt (number_of_kind kind) 30

abbrev pub is_word_or_marked : TokenKind → Bool
is_word_or_marked kind = nat_lt (number_of_kind kind) 37 || number_of_kind kind == 70

abbrev pub there_is : Option TokenKind → Bool
there_is None = false
there_is (Some kind) = true

-- Punctuation of one byte goes on in the next byte: both make punctuation of two bytes, or a comment begins, or it is a
-- bracket before a colon, as in a word with a mark.
abbrev pub joins : List ℕ → List ℕ → Bool
joins [] rest = false
joins (a ∷ []) [] = false
joins (a ∷ []) (b ∷ rest) = there_is (kind_in punctuation_of_two (a ∷ b ∷ [])) || ((a == 47 && is_comment_byte b) || (opens a && b == 58))
joins (a ∷ b ∷ bytes) rest = false

-- A token of this kind goes on in the bytes behind it: a letter, digit or `_` follows a word or number, one of these or `-`
-- a word with a mark, or punctuation joins the next byte.
abbrev pub goes_on : TokenKind → List ℕ → Bool
goes_on kind rest =
    if is_word kind then first_is is_word_byte rest
    else (if is_word_or_marked kind then first_is is_marked_byte rest else joins (spelling kind) rest)

-- Two kinds glue: side by side, without a blank, the first goes on in the second. To a word or number glue just words,
-- numbers and words with a mark.
abbrev pub glues : TokenKind → TokenKind → Bool
glues kind next = if is_word next then is_word_or_marked kind else goes_on kind (spelling next)

-- a token glues to the pieces behind it
abbrev pub glues_to : TokenKind → List Piece → Bool
glues_to kind [] = false
glues_to kind (Word next ∷ pieces) = glues kind next
glues_to kind (Blank ∷ pieces) = false
glues_to kind (LineEnd ∷ pieces) = false

-- a token of the kind can be spelled: a name is a word that is no keyword, a number is below 2^64
abbrev pub IsSpellable : TokenKind → Type 0
IsSpellable (Name text) = IsName text
IsSpellable (Number n base) = n < 2 ^ 64
IsSpellable _ = Unit {0}

-- each token can be spelled, and glues to nothing behind it
abbrev pub IsApart : List Piece → Type 0
IsApart [] = Unit {0}
IsApart (Word kind ∷ pieces) = IsSpellable kind × (glues_to kind pieces ≡ false) × IsApart pieces
IsApart (Blank ∷ pieces) = IsApart pieces
IsApart (LineEnd ∷ pieces) = IsApart pieces

-- the text of pieces that stay apart splits into tokens of their kinds
abbrev pub PiecesAreSplit : Type 0
PiecesAreSplit = (pieces : List Piece) → IsApart pieces → (tokens : List Token) × Splits (text_of pieces) tokens × (map (λ token. token.kind) tokens ≡ kinds_of pieces)
