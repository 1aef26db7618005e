-- The tokens of a text as a function (own rule): what stands at the beginning of some bytes, and lexeme by lexeme the tokens of all.
-- That it is the splitting that the manual asks for is the law beside it (`Splits`).
use Rattle.std.specs.Prelude.{◌≡◌, ℕ, zero, suc, ◌+◌, ◌-◌, ◌^◌, Bool, false, ◌&&◌, ◌==◌, nat_lt, List, [], ◌∷◌, take, drop, Option, Some, None, Result, Ok, Err, if◌then◌else◌}
use Rattle.std.specs.Global.{Vec}
use Rattle.td_num.specs.Lists.{one_more}
use Rattle.td_ast.specs.declared.token.Token.{Token}
use Rattle.td_ast.specs.declared.token.TokenKind.{TokenKind}
use Rattle.td_ast.specs.declared.token.TokenKind.TheVariants.{Name, Number}
use Rattle.td_ast.specs.declared.token.Base.{Base}
use Rattle.td_ast.specs.declared.token.Base.TheVariants.{Decimal, Hexadecimal}
use Rattle.td_lexer.specs.declared.lexeme.Lexeme.{Lexeme}
use Rattle.td_lexer.specs.declared.lexeme.Lexeme.TheVariants as lexemes
use Rattle.td_lexer.specs.declared.error.LexError.{LexError}
use Rattle.td_lexer.specs.declared.error.LexError.TheVariants.{NoMemory, BadByte, OpenComment, BigNumber}
use Rattle.td_lexer.specs.Bytes.{is_blank, is_letter, is_digit, is_word_byte, is_marked_byte, is_hexadecimal, is_hexadecimal_mark, is_in_line, opens, first_is, run}
use Rattle.td_lexer.specs.Numerals.{numeral_value}
use Rattle.td_lexer.specs.Spellings.{kind_in, keyword_kind, marked_words, punctuation_of_two, single_kind}

-- ---- words

-- the keyword that was found, or else the word as a name
abbrev pub name_or : List ℕ → Option TokenKind → TokenKind
name_or word (Some kind) = kind
name_or word None = Name word

-- the token that a word is
abbrev pub word_kind : List ℕ → TokenKind
word_kind word = name_or word (keyword_kind word)

-- the word at the beginning: all letters, digits and `_` there
unfoldable pub word_lexeme : List ℕ → Lexeme
word_lexeme bytes = lexemes.Token (word_kind (take (run is_word_byte bytes) bytes)) (run is_word_byte bytes)

-- ---- numbers

-- how many hexadecimal digits stand after `0x` or `0X`
abbrev pub hexadecimal_digits : List ℕ → ℕ
hexadecimal_digits [] = 0
hexadecimal_digits (a ∷ bytes) = if a == 48 && first_is is_hexadecimal_mark bytes then run is_hexadecimal (drop 1 bytes) else 0

-- a number of so many bytes, after which no byte of a word may stand
abbrev pub number_ends : Base → ℕ → List ℕ → Lexeme
number_ends base n bytes =
    if first_is is_word_byte (drop n bytes) then lexemes.BadByte n
    else (if nat_lt (numeral_value base (take n bytes)) (2 ^ 64) then lexemes.Token (Number (numeral_value base (take n bytes)) base) n else lexemes.BigNumber)

-- the number at the beginning
unfoldable pub number_lexeme : List ℕ → Lexeme
number_lexeme bytes =
    if hexadecimal_digits bytes == 0 then number_ends Decimal (run is_digit bytes) bytes
    else number_ends Hexadecimal (2 + hexadecimal_digits bytes) bytes

-- ---- comments

-- a comment ends at the beginning
abbrev pub closes : List ℕ → Bool
closes [] = false
closes (a ∷ bytes) = a == 42 && first_is (λ b. b == 47) bytes

-- how many bytes there are up to and with the first end of a comment
abbrev pub close_of : List ℕ → Option ℕ
close_of [] = None
close_of (a ∷ bytes) = if closes (a ∷ bytes) then Some 2 else one_more (close_of bytes)

-- the comment that ends so many bytes after its `/*`
abbrev pub closed : Option ℕ → Lexeme
closed None = lexemes.OpenComment
closed (Some n) = lexemes.Trivia (n + 2)

-- ---- punctuation

-- how many bytes of a word with a mark stand at the beginning: the mark, a colon, and what may follow in such a word
abbrev pub marked_length : List ℕ → ℕ
marked_length [] = 0
marked_length (a ∷ []) = 1
marked_length (a ∷ b ∷ bytes) = if b == 58 then 2 + run is_marked_byte bytes else 1 + run is_marked_byte (b ∷ bytes)

-- the word with a mark at the beginning
abbrev pub marked_kind : List ℕ → Option TokenKind
marked_kind bytes = if first_is opens bytes then kind_in marked_words (take (marked_length bytes) bytes) else None

-- a token of so many bytes, or else another lexeme
abbrev pub found_or : Option TokenKind → ℕ → Lexeme → Lexeme
found_or (Some kind) n other = lexemes.Token kind n
found_or None n other = other

-- a word with a mark, else punctuation of two bytes, else one of one byte
unfoldable pub punctuation_lexeme : List ℕ → Lexeme
punctuation_lexeme bytes = found_or (marked_kind bytes) (marked_length bytes) (found_or (kind_in punctuation_of_two (take 2 bytes)) 2 (found_or (single_kind (take 1 bytes)) 1 (lexemes.BadByte 0)))

-- ---- all

-- what stands at the beginning
unfoldable pub lexeme : List ℕ → Lexeme
lexeme [] = lexemes.Trivia 0
lexeme (a ∷ bytes) =
    if is_blank a then lexemes.Trivia 1
    else (if is_letter a then word_lexeme (a ∷ bytes)
    else (if is_digit a then number_lexeme (a ∷ bytes)
    else (if a == 47 && first_is (λ b. b == 47) bytes then lexemes.Trivia (2 + run is_in_line (drop 1 bytes))
    else (if a == 47 && first_is (λ b. b == 42) bytes then closed (close_of (drop 1 bytes)) else punctuation_lexeme (a ∷ bytes)))))

-- ---- the tokens

-- how many bytes a lexeme has
abbrev pub width : Lexeme → ℕ
width (lexemes.Trivia n) = n
width (lexemes.Token kind n) = n
width (lexemes.BadByte n) = 0
width lexemes.OpenComment = 0
width lexemes.BigNumber = 0

-- a token before the others
abbrev pub with_token : Token → Result (List Token) LexError → Result (List Token) LexError
with_token token (Ok tokens) = Ok (token ∷ tokens)
with_token token (Err error) = Err error

-- the lexeme at a place, before what comes after it
abbrev pub with_lexeme : Lexeme → ℕ → Result (List Token) LexError → Result (List Token) LexError
with_lexeme (lexemes.Trivia n) at others = others
with_lexeme (lexemes.Token kind n) at others = with_token (record { kind = kind; span = record { from = at; to = at + n } }) others
with_lexeme (lexemes.BadByte n) at others = Err (BadByte (at + n))
with_lexeme lexemes.OpenComment at others = Err (OpenComment at)
with_lexeme lexemes.BigNumber at others = Err (BigNumber at)

-- the tokens of the bytes, of which the first stands at a place in the text and the next so many are in a lexeme
-- that was taken
unfoldable pub tokens_from : ℕ → ℕ → List ℕ → Result (List Token) LexError
tokens_from at inside [] = Ok []
tokens_from at (suc inside) (b ∷ bytes) = tokens_from (at + 1) inside bytes
tokens_from at zero (b ∷ bytes) = with_lexeme (lexeme (b ∷ bytes)) at (tokens_from (at + 1) (width (lexeme (b ∷ bytes)) - 1) bytes)

-- the tokens of a text with their spans, or the first place where it has none
abbrev pub tokens_of : List ℕ → Result (List Token) LexError
tokens_of text = tokens_from 0 0 text

-- ---- what is answered

-- why there are no tokens, unless memory ran out
abbrev pub IsRefusal : LexError → Result (List Token) LexError → Type 0
IsRefusal NoMemory tokens = Unit {0}
IsRefusal (BadByte at) tokens = tokens ≡ Err (BadByte at)
IsRefusal (OpenComment at) tokens = tokens ≡ Err (OpenComment at)
IsRefusal (BigNumber at) tokens = tokens ≡ Err (BigNumber at)

-- what was answered is the tokens, or why there are none, unless memory ran out
abbrev pub Lexes : Result (Vec Token) LexError → Result (List Token) LexError → Type 0
Lexes (Ok found) tokens = tokens ≡ Ok found.items
Lexes (Err error) tokens = IsRefusal error tokens
