-- The fixed spellings of tokens, in the order of the grammar's page, "Tokens".
use Rattle.std.specs.Prelude.{ℕ, Bool, List, [], ◌∷◌, Option, Some, None, is_some, codes, bytes_eq, if◌then◌else◌}
use Rattle.td_num.specs.declared.number.Width.{Width}
use Rattle.td_num.specs.declared.number.Width.TheVariants.{One, Two, Four, Eight}
use Rattle.td_num.specs.declared.number.ByteOrder.{ByteOrder}
use Rattle.td_num.specs.declared.number.ByteOrder.TheVariants.{LittleEndian, BigEndian}
use Rattle.td_ast.specs.declared.token.TokenKind.{TokenKind}
use Rattle.td_ast.specs.declared.token.TokenKind.TheVariants.{Int, Typedef, Struct, Casetype, Enum, Switch, Case, Default, Entrypoint, Output, Where, Mutable, Unit, AllBytes, AllZeros, Sizeof, This, If, Else, Return, Abort, Var, FieldPos, FieldPtr, IsRangeOkay, True, False, Pointer, Define, Act, Check, OnSuccess, ByteSize, SingleElement, Zeroterm, AndAnd, OrOr, EqualEqual, NotEqual, LessEqual, GreaterEqual, ShiftLeft, ShiftRight, Arrow, Plus, Minus, Star, Slash, Percent, Ampersand, Bar, Caret, Tilde, Bang, Less, Greater, Assign, Question, Colon, Semicolon, Comma, OpenParen, CloseParen, OpenBrace, CloseBrace, OpenBracket, CloseBracket, Dot, Copy}

-- a spelling, and the token that it spells
abbrev pub Entry : Type 0
Entry = List ℕ × TokenKind

-- the token that bytes spell by a table
abbrev pub kind_in : List Entry → List ℕ → Option TokenKind
kind_in [] bytes = None
kind_in (entry ∷ others) bytes = if bytes_eq bytes entry.0 then Some entry.1 else kind_in others bytes

-- the first of two answers that there is
abbrev pub or_else : Option TokenKind → Option TokenKind → Option TokenKind
or_else (Some kind) other = Some kind
or_else None other = other

-- the token of a number type
abbrev pub number : Width → ByteOrder → TokenKind
number width order = Int (record { width = width; order = order })

-- keywords of definitions and fields
abbrev pub definition_words : List Entry
definition_words =
    (codes "typedef", Typedef) ∷ (codes "struct", Struct) ∷ (codes "casetype", Casetype) ∷ (codes "enum", Enum)
    ∷ (codes "switch", Switch) ∷ (codes "case", Case) ∷ (codes "default", Default) ∷ (codes "entrypoint", Entrypoint)
    ∷ (codes "output", Output) ∷ (codes "where", Where) ∷ (codes "mutable", Mutable) ∷ (codes "unit", Unit)
    ∷ (codes "all_bytes", AllBytes) ∷ (codes "all_zeros", AllZeros) ∷ []

-- keywords of expressions and actions
abbrev pub expression_words : List Entry
expression_words =
    (codes "sizeof", Sizeof) ∷ (codes "this", This) ∷ (codes "if", If) ∷ (codes "else", Else)
    ∷ (codes "return", Return) ∷ (codes "abort", Abort) ∷ (codes "var", Var) ∷ (codes "field_pos", FieldPos)
    ∷ (codes "field_ptr", FieldPtr) ∷ (codes "is_range_okay", IsRangeOkay) ∷ (codes "true", True) ∷ (codes "false", False)
    ∷ (codes "PUINT8", Pointer) ∷ []

-- the number types
abbrev pub number_types : List Entry
number_types =
    (codes "UINT8", number One LittleEndian) ∷ (codes "UINT8BE", number One BigEndian)
    ∷ (codes "UINT16", number Two LittleEndian) ∷ (codes "UINT16BE", number Two BigEndian)
    ∷ (codes "UINT32", number Four LittleEndian) ∷ (codes "UINT32BE", number Four BigEndian)
    ∷ (codes "UINT64", number Eight LittleEndian) ∷ (codes "UINT64BE", number Eight BigEndian) ∷ []

-- the words that begin with `#`, `{` or `[`. Each stands only where no letter, digit, `_` or `-` follows it
abbrev pub marked_words : List Entry
marked_words =
    (codes "#define", Define)
    ∷ (codes "{:act", Act)
    ∷ (codes "{:check", Check)
    ∷ (codes "{:on-success", OnSuccess)
    ∷ (codes "{:copy", Copy)
    ∷ (codes "[:byte-size", ByteSize)
    ∷ (codes "[:byte-size-single-element-array", SingleElement)
    ∷ (codes "[:zeroterm-byte-size-at-most", Zeroterm) ∷ []

-- punctuation of two bytes
abbrev pub punctuation_of_two : List Entry
punctuation_of_two =
    (codes "&&", AndAnd) ∷ (codes "||", OrOr) ∷ (codes "==", EqualEqual) ∷ (codes "!=", NotEqual)
    ∷ (codes "<=", LessEqual) ∷ (codes ">=", GreaterEqual) ∷ (codes "<<", ShiftLeft) ∷ (codes ">>", ShiftRight)
    ∷ (codes "->", Arrow) ∷ []

-- operators of one byte
abbrev pub operators : List Entry
operators =
    (codes "+", Plus) ∷ (codes "-", Minus) ∷ (codes "*", Star) ∷ (codes "/", Slash)
    ∷ (codes "%", Percent) ∷ (codes "&", Ampersand) ∷ (codes "|", Bar) ∷ (codes "^", Caret)
    ∷ (codes "~", Tilde) ∷ (codes "!", Bang) ∷ (codes "<", Less) ∷ (codes ">", Greater)
    ∷ (codes "=", Assign) ∷ []

-- the other punctuation of one byte
abbrev pub delimiters : List Entry
delimiters =
    (codes "?", Question) ∷ (codes ":", Colon) ∷ (codes ";", Semicolon) ∷ (codes ",", Comma)
    ∷ (codes "(", OpenParen) ∷ (codes ")", CloseParen) ∷ (codes "{", OpenBrace) ∷ (codes "}", CloseBrace)
    ∷ (codes "[", OpenBracket) ∷ (codes "]", CloseBracket)
    ∷ (codes ".", Dot) ∷ []

-- the keyword that a word is
abbrev pub keyword_kind : List ℕ → Option TokenKind
keyword_kind word = or_else (kind_in definition_words word) (or_else (kind_in expression_words word) (kind_in number_types word))

-- a word is a keyword
abbrev pub is_keyword : List ℕ → Bool
is_keyword word = is_some (keyword_kind word)

-- the punctuation of one byte that bytes spell
abbrev pub single_kind : List ℕ → Option TokenKind
single_kind bytes = or_else (kind_in operators bytes) (kind_in delimiters bytes)

-- the punctuation that bytes spell
abbrev pub punctuation_kind : List ℕ → Option TokenKind
punctuation_kind bytes = or_else (kind_in punctuation_of_two bytes) (single_kind bytes)
