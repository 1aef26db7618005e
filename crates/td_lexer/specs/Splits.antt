-- The splitting of a text into tokens, as the rules of the language have it (the grammar's page, "Tokens"). The text
-- is white space, comments and spellings of tokens, one after the other. At each place the longest token is taken.
use Rattle.std.specs.Prelude.{◌≡◌, ℕ, ◌+◌, ◌^◌, ◌<◌, ◌≤◌, ◌++◌, ◌⊎◌, Bool, true, false, ◌||◌, ◌==◌, List, [], ◌∷◌, length, Some, None, codes}
use Rattle.td_num.specs.declared.text.TheConstants.{DOT}
use Rattle.td_ast.specs.declared.token.Token.{Token}
use Rattle.td_ast.specs.declared.token.TokenKind.{TokenKind}
use Rattle.td_ast.specs.declared.token.TokenKind.TheVariants.{Name, Number}
use Rattle.td_ast.specs.declared.token.Base.{Base}
use Rattle.td_ast.specs.declared.token.Base.TheVariants.{Decimal, Hexadecimal}
use Rattle.td_lexer.specs.declared.error.LexError.{LexError}
use Rattle.td_lexer.specs.declared.error.LexError.TheVariants.{NoMemory, BadByte, OpenComment, BigNumber}
use Rattle.td_lexer.specs.Bytes.{is_blank, is_letter, is_digit, is_word_byte, is_marked_byte, is_hexadecimal, is_hexadecimal_mark, is_in_line, every, first_is}
use Rattle.td_lexer.specs.Spellings.{kind_in, keyword_kind, marked_words, punctuation_kind}
use Rattle.td_lexer.specs.Numerals.{numeral_value}

-- ---- tokens

-- a name: a letter or `_`, then letters, digits and `_`; no keyword
abbrev pub IsName : List ℕ → Type 0
IsName bytes = (first_is is_letter bytes ≡ true) × (every is_word_byte bytes ≡ true) × (keyword_kind bytes ≡ None)

-- two names joined by a dot
abbrev pub IsDotted : List ℕ → Type 0
IsDotted bytes = (part : List ℕ) × (own : List ℕ) × IsName part × IsName own × (bytes ≡ part ++ DOT ∷ own)

-- a name of a module: one, or two joined by a dot, as modules of several parts have them
abbrev pub IsLongName : List ℕ → Type 0
IsLongName bytes = IsName bytes ⊎ IsDotted bytes

-- a number: decimal digits, or `0x` or `0X` and hexadecimal digits
abbrev pub IsNumeral : Base → List ℕ → Type 0
IsNumeral Decimal bytes = (0 < length bytes) × (every is_digit bytes ≡ true)
IsNumeral Hexadecimal bytes = (mark : ℕ) × (digits : List ℕ) × (bytes ≡ 48 ∷ mark ∷ digits) × (is_hexadecimal_mark mark ≡ true) × (0 < length digits) × (every is_hexadecimal digits ≡ true)

-- `/` or `*`
abbrev pub is_comment_byte : ℕ → Bool
is_comment_byte b = b == 47 || b == 42

-- A token of a kind begins with these bytes, before the rest. A number stands only where no letter, digit or `_`
-- follows, a word after `#`, `{` or `[` only where none of these nor `-` does, and the punctuation `/` only where neither
-- `/` nor `*` does.
pub data Begins : TokenKind → List ℕ → List ℕ → Type 0 where
  keyword_begins : {kind : TokenKind} {bytes rest : List ℕ} → keyword_kind bytes ≡ Some kind → Begins kind bytes rest
  name_begins : {bytes rest : List ℕ} → IsName bytes → Begins (Name bytes) bytes rest
  number_begins : {bytes rest : List ℕ} (base : Base) → IsNumeral base bytes → numeral_value base bytes < 2 ^ 64 → first_is is_word_byte rest ≡ false → Begins (Number (numeral_value base bytes) base) bytes rest
  marked_begins : {kind : TokenKind} {bytes rest : List ℕ} → kind_in marked_words bytes ≡ Some kind → first_is is_marked_byte rest ≡ false → Begins kind bytes rest
  punctuation_begins : {kind : TokenKind} {bytes rest : List ℕ} → punctuation_kind bytes ≡ Some kind → (bytes ≡ codes "/" → first_is is_comment_byte rest ≡ false) → Begins kind bytes rest

-- the token that stands here: one that begins, where no longer one does
abbrev pub Stands : TokenKind → List ℕ → List ℕ → Type 0
Stands kind bytes rest =
    Begins kind bytes rest
    × ((other : TokenKind) (others after : List ℕ) → others ++ after ≡ bytes ++ rest → Begins other others after → length others ≤ length bytes)

-- ---- white space and comments

-- Bytes before the rest that are no token: white space; `//` and all up to the line's end; `/*` and all up to and with
-- the first `*/`.
pub data IsPassed : List ℕ → List ℕ → Type 0 where
  blank_passes : {b : ℕ} {rest : List ℕ} → is_blank b ≡ true → IsPassed (b ∷ []) rest
  line_passes : {body rest : List ℕ} → every is_in_line body ≡ true → first_is is_in_line rest ≡ false → IsPassed (codes "//" ++ body) rest
  block_passes : (body : List ℕ) {rest : List ℕ} → ((before behind : List ℕ) → body ++ codes "*/" ++ rest ≡ before ++ codes "*/" ++ behind → length body ≤ length before) → IsPassed (codes "/*" ++ body ++ codes "*/") rest

-- ---- the text

-- From a place on, the bytes split into white space, comments and these tokens, up to a place where the last bytes stand.
pub data SplitsUpTo : ℕ → List ℕ → List Token → ℕ → List ℕ → Type 0 where
  splits_here : {at : ℕ} {bytes : List ℕ} → SplitsUpTo at bytes [] at bytes
  splits_passed : {at to : ℕ} {bytes rest last : List ℕ} {tokens : List Token} → IsPassed bytes rest → SplitsUpTo (at + length bytes) rest tokens to last → SplitsUpTo at (bytes ++ rest) tokens to last
  splits_token : {at to : ℕ} {bytes rest last : List ℕ} {kind : TokenKind} {tokens : List Token} → Stands kind bytes rest → SplitsUpTo (at + length bytes) rest tokens to last → SplitsUpTo at (bytes ++ rest) (record { kind = kind; span = record { from = at; to = at + length bytes } } ∷ tokens) to last

-- the text splits into white space, comments and these tokens, each with its span
abbrev pub Splits : List ℕ → List Token → Type 0
Splits text tokens = (to : ℕ) × SplitsUpTo 0 text tokens to []

-- a prefix of the text splits into white space, comments and a token or more
abbrev pub HasToken : List ℕ → Type 0
HasToken text = (tokens : List Token) × (at : ℕ) × (rest : List ℕ) × SplitsUpTo 0 text tokens at rest × (0 < length tokens)

-- ---- refusals

-- a comment begins that has no end
abbrev pub IsOpenComment : List ℕ → Type 0
IsOpenComment rest = (body : List ℕ) × (rest ≡ codes "/*" ++ body) × ((before behind : List ℕ) → body ≡ before ++ codes "*/" ++ behind → ⊥)

-- a number of 2^64 or more stands here
abbrev pub IsBigNumber : List ℕ → Type 0
IsBigNumber rest = (base : Base) × (bytes after : List ℕ) × (rest ≡ bytes ++ after) × IsNumeral base bytes × (2 ^ 64 ≤ numeral_value base bytes) × (first_is is_word_byte after ≡ false)

-- the longest number that begins here has so many bytes, and a letter, a digit or `_` follows it
abbrev pub GoesOn : List ℕ → ℕ → Type 0
GoesOn rest len = (base : Base) × (bytes after : List ℕ) × (rest ≡ bytes ++ after) × (length bytes ≡ len) × IsNumeral base bytes × (first_is is_word_byte after ≡ true)
    × ((other : Base) (others behind : List ℕ) → others ++ behind ≡ bytes ++ after → IsNumeral other others → length others ≤ length bytes)

-- there are bytes, but no white space, comment, number or other token begins
abbrev pub IsNothing : List ℕ → Type 0
IsNothing rest =
    (0 < length rest) × (first_is is_blank rest ≡ false) × (first_is is_digit rest ≡ false)
    × ((behind : List ℕ) → rest ≡ codes "//" ++ behind → ⊥) × ((behind : List ℕ) → rest ≡ codes "/*" ++ behind → ⊥)
    × ((kind : TokenKind) (bytes after : List ℕ) → bytes ++ after ≡ rest → Begins kind bytes after → ⊥)

-- why the rest, which stands at a place, doesn't split further
abbrev pub Fails : ℕ → List ℕ → LexError → Type 0
Fails at rest NoMemory = ⊥
Fails at rest (BadByte place) = ((place ≡ at) × IsNothing rest) ⊎ ((len : ℕ) × (place ≡ at + len) × GoesOn rest len)
Fails at rest (OpenComment place) = (place ≡ at) × IsOpenComment rest
Fails at rest (BigNumber place) = (place ≡ at) × IsBigNumber rest

-- the text splits up to a place, and there no further, for this cause
abbrev pub IsRefused : List ℕ → LexError → Type 0
IsRefused text error = (tokens : List Token) × (at : ℕ) × (rest : List ℕ) × SplitsUpTo 0 text tokens at rest × Fails at rest error
