-- Texts as lists of pieces (own rule): tokens by their kinds, blanks and ends of lines.
use Rattle.std.specs.Prelude.{ℕ, false, List, [], ◌∷◌, ◌++◌, codes, decimal}
use Rattle.std.specs.Fmt.{digits}
use Rattle.td_num.specs.declared.number.Width.{Width}
use Rattle.td_num.specs.declared.number.Width.TheVariants.{One, Two, Four, Eight}
use Rattle.td_num.specs.declared.number.ByteOrder.{ByteOrder}
use Rattle.td_num.specs.declared.number.ByteOrder.TheVariants.{LittleEndian, BigEndian}
use Rattle.td_ast.specs.declared.token.TokenKind.{TokenKind}
use Rattle.td_ast.specs.declared.token.TokenKind.TheVariants.{Name, Number, Int, Typedef, Struct, Casetype, Enum, Switch, Case, Default, Entrypoint, Output, Where, Mutable, Unit, AllBytes, AllZeros, Sizeof, This, If, Else, Return, Abort, Var, FieldPos, FieldPtr, IsRangeOkay, True, False, Pointer, Define, Act, Check, OnSuccess, ByteSize, SingleElement, Zeroterm, AndAnd, OrOr, EqualEqual, NotEqual, LessEqual, GreaterEqual, ShiftLeft, ShiftRight, Arrow, Plus, Minus, Star, Slash, Percent, Ampersand, Bar, Caret, Tilde, Bang, Less, Greater, Assign, Question, Colon, Semicolon, Comma, OpenParen, CloseParen, OpenBrace, CloseBrace, OpenBracket, CloseBracket, Dot, Copy}
use Rattle.td_ast.specs.declared.token.Base.{Base}
use Rattle.td_ast.specs.declared.token.Base.TheVariants.{Decimal, Hexadecimal}

-- A piece of a text: a token, a blank or the end of a line.
pub data Piece : Type 0 where
  Word : TokenKind → Piece
  Blank : Piece
  LineEnd : Piece

-- the tokens of pieces, by their kinds
abbrev pub kinds_of : List Piece → List TokenKind
kinds_of [] = []
kinds_of (Word kind ∷ pieces) = kind ∷ kinds_of pieces
kinds_of (Blank ∷ pieces) = kinds_of pieces
kinds_of (LineEnd ∷ pieces) = kinds_of pieces

-- digits without leading zeros; hexadecimal ones in lower case, after `0x`
abbrev pub number_spelling : ℕ → Base → List ℕ
number_spelling n Decimal = decimal n
number_spelling n Hexadecimal = codes "0x" ++ digits 16 false n

abbrev pub type_spelling : Width → ByteOrder → List ℕ
type_spelling One LittleEndian = codes "UINT8"
type_spelling One BigEndian = codes "UINT8BE"
type_spelling Two LittleEndian = codes "UINT16"
type_spelling Two BigEndian = codes "UINT16BE"
type_spelling Four LittleEndian = codes "UINT32"
type_spelling Four BigEndian = codes "UINT32BE"
type_spelling Eight LittleEndian = codes "UINT64"
type_spelling Eight BigEndian = codes "UINT64BE"

-- How a token of a kind is spelled. That these are the spellings which the grammar's page gives, and `lex` reads, is
-- part of the law in src/laws.rt.
abbrev pub spelling : TokenKind → List ℕ
spelling (Name text) = text
spelling (Number n base) = number_spelling n base
spelling (Int t) = type_spelling t.width t.order
spelling Typedef = codes "typedef"
spelling Struct = codes "struct"
spelling Casetype = codes "casetype"
spelling Enum = codes "enum"
spelling Switch = codes "switch"
spelling Case = codes "case"
spelling Default = codes "default"
spelling Entrypoint = codes "entrypoint"
spelling Output = codes "output"
spelling Where = codes "where"
spelling Mutable = codes "mutable"
spelling Unit = codes "unit"
spelling AllBytes = codes "all_bytes"
spelling AllZeros = codes "all_zeros"
spelling Sizeof = codes "sizeof"
spelling This = codes "this"
spelling If = codes "if"
spelling Else = codes "else"
spelling Return = codes "return"
spelling Abort = codes "abort"
spelling Var = codes "var"
spelling FieldPos = codes "field_pos"
spelling FieldPtr = codes "field_ptr"
spelling IsRangeOkay = codes "is_range_okay"
spelling True = codes "true"
spelling False = codes "false"
spelling Pointer = codes "PUINT8"
spelling Define = codes "#define"
spelling Act = codes "{:act"
spelling Check = codes "{:check"
spelling OnSuccess = codes "{:on-success"
spelling ByteSize = codes "[:byte-size"
spelling SingleElement = codes "[:byte-size-single-element-array"
spelling Zeroterm = codes "[:zeroterm-byte-size-at-most"
spelling AndAnd = codes "&&"
spelling OrOr = codes "||"
spelling EqualEqual = codes "=="
spelling NotEqual = codes "!="
spelling LessEqual = codes "<="
spelling GreaterEqual = codes ">="
spelling ShiftLeft = codes "<<"
spelling ShiftRight = codes ">>"
spelling Arrow = codes "->"
spelling Plus = codes "+"
spelling Minus = codes "-"
spelling Star = codes "*"
spelling Slash = codes "/"
spelling Percent = codes "%"
spelling Ampersand = codes "&"
spelling Bar = codes "|"
spelling Caret = codes "^"
spelling Tilde = codes "~"
spelling Bang = codes "!"
spelling Less = codes "<"
spelling Greater = codes ">"
spelling Assign = codes "="
spelling Question = codes "?"
spelling Colon = codes ":"
spelling Semicolon = codes ";"
spelling Comma = codes ","
spelling OpenParen = codes "("
spelling CloseParen = codes ")"
spelling OpenBrace = codes "{"
spelling CloseBrace = codes "}"
spelling OpenBracket = codes "["
spelling CloseBracket = codes "]"
spelling Dot = codes "."
spelling Copy = codes "{:copy"

-- the text of pieces: the spellings of the tokens, and a byte for each blank and each end of a line
abbrev pub text_of : List Piece → List ℕ
text_of [] = []
text_of (Word kind ∷ pieces) = spelling kind ++ text_of pieces
text_of (Blank ∷ pieces) = 32 ∷ text_of pieces
text_of (LineEnd ∷ pieces) = 10 ∷ text_of pieces
