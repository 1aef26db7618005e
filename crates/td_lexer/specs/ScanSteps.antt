-- What a step of reading tokens does, and where a lexeme ends (own rule): words for the clauses of private functions alone, which
-- no public one cites.
use Rattle.std.specs.Prelude.{◌≡◌, ℕ, ◌+◌, ◌<◌, ◌≤◌, ◌++◌, List, [], ◌∷◌, length, drop, Result, Ok, Err}
use Rattle.td_ast.specs.declared.token.Token.{Token}
use Rattle.td_ast.specs.declared.token.TokenKind.{TokenKind}
use Rattle.td_ast.specs.declared.token.TokenKind.TheVariants.{Name}
use Rattle.td_lexer.specs.declared.lexeme.Lexeme.{Lexeme}
use Rattle.td_lexer.specs.declared.lexeme.Lexeme.TheVariants as lexemes
use Rattle.td_lexer.specs.declared.error.LexError.{LexError}
use Rattle.td_lexer.specs.declared.error.LexError.TheVariants.{NoMemory, BadByte, OpenComment, BigNumber}
use Rattle.td_lexer.specs.Splits.{Stands, SplitsUpTo, Fails, IsRefused, HasToken}

-- ---- lexemes

-- how many bytes further a lexeme ends, or is refused
abbrev pub reach : Lexeme → ℕ
reach (lexemes.Trivia n) = n
reach (lexemes.Token kind n) = n
reach (lexemes.BadByte n) = n
reach lexemes.OpenComment = 0
reach lexemes.BigNumber = 0

-- a lexeme within so many bytes, of which it takes one or more unless it is refused
abbrev pub IsWithin : ℕ → Lexeme → Type 0
IsWithin len (lexemes.Trivia n) = (0 < n) × (n ≤ len)
IsWithin len (lexemes.Token kind n) = (0 < n) × (n ≤ len)
IsWithin len (lexemes.BadByte n) = n ≤ len
IsWithin len lexemes.OpenComment = Unit {0}
IsWithin len lexemes.BigNumber = Unit {0}

-- where a lexeme at a place ends, or why it is refused
abbrev pub end_at : Lexeme → ℕ → Result ℕ LexError
end_at (lexemes.Trivia n) at = Ok (at + n)
end_at (lexemes.Token kind n) at = Ok (at + n)
end_at (lexemes.BadByte n) at = Err (BadByte (at + n))
end_at lexemes.OpenComment at = Err (OpenComment at)
end_at lexemes.BigNumber at = Err (BigNumber at)

-- the token that a lexeme from one place to another is, if it is one
abbrev pub tokens_in : Lexeme → ℕ → ℕ → List Token
tokens_in (lexemes.Token kind n) from to = record { kind = kind; span = record { from = from; to = to } } ∷ []
tokens_in (lexemes.Trivia n) from to = []
tokens_in (lexemes.BadByte n) from to = []
tokens_in lexemes.OpenComment from to = []
tokens_in lexemes.BigNumber from to = []

-- ---- what memory is taken for

abbrev pub IsToken : Lexeme → Type 0
IsToken (lexemes.Token kind n) = Unit {0}
IsToken (lexemes.Trivia n) = ⊥
IsToken (lexemes.BadByte n) = ⊥
IsToken lexemes.OpenComment = ⊥
IsToken lexemes.BigNumber = ⊥

abbrev pub IsNameKind : TokenKind → Type 0
IsNameKind (Name text) = Unit {0}
IsNameKind _ = ⊥

-- a token that is a name
abbrev pub HoldsName : Lexeme → Type 0
HoldsName (lexemes.Token kind n) = IsNameKind kind
HoldsName (lexemes.Trivia n) = ⊥
HoldsName (lexemes.BadByte n) = ⊥
HoldsName lexemes.OpenComment = ⊥
HoldsName lexemes.BigNumber = ⊥

-- ---- steps

-- a token stands at the beginning
abbrev pub BeginsToken : List ℕ → Type 0
BeginsToken rest = (kind : TokenKind) × (bytes after : List ℕ) × (rest ≡ bytes ++ after) × Stands kind bytes after

-- what one step from a place does: it goes on over white space, a comment or a token, which is put after the others; or
-- there was no memory for a token that stands there; or the text splits no further there
abbrev pub ScanStep : Result ℕ LexError → ℕ → List ℕ → List Token → List Token → Type 0
ScanStep (Ok next) at text old new =
    (at < next) × (next ≤ length text)
    × ((added : List Token) × (new ≡ old ++ added) × SplitsUpTo at (drop at text) added next (drop next text))
ScanStep (Err NoMemory) at text old new = BeginsToken (drop at text)
ScanStep (Err (BadByte place)) at text old new = Fails at (drop at text) (BadByte place)
ScanStep (Err (OpenComment place)) at text old new = Fails at (drop at text) (OpenComment place)
ScanStep (Err (BigNumber place)) at text old new = Fails at (drop at text) (BigNumber place)

-- why there are no tokens: the text is refused for this cause, or there was no memory for a token that it has
abbrev pub Stops : List ℕ → LexError → Type 0
Stops text NoMemory = HasToken text
Stops text (BadByte place) = IsRefused text (BadByte place)
Stops text (OpenComment place) = IsRefused text (OpenComment place)
Stops text (BigNumber place) = IsRefused text (BigNumber place)
