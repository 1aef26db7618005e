-- A token doesn't go on in what follows it without gluing.
use Rattle.std.proofs.Common.{◌≡◌, ℕ, ◌+◌, ◌≤◌, ◌<◌, ◌^◌, Bool, true, false, cond, eqb, List, [], ◌∷◌, ◌++◌, length, Option, Some, None, refl, sym, ap, subst, ◌∙◌, arith}
use Rattle.std.specs.Prelude.{◌||◌, not, codes, nat_lt}
use Rattle.std.proofs.lemmas.Bool.Decides.{nat_tests}
use Rattle.std.proofs.Math.Bool.{and-false}
use Rattle.td_num.specs.declared.number.Width.{Width}
use Rattle.td_num.specs.declared.number.Width.TheVariants.{One, Two, Four, Eight}
use Rattle.td_num.specs.declared.number.ByteOrder.{ByteOrder}
use Rattle.td_num.specs.declared.number.ByteOrder.TheVariants.{LittleEndian, BigEndian}
use Rattle.td_ast.specs.declared.token.Base.{Base}
use Rattle.td_ast.specs.declared.token.TokenKind.{TokenKind}
use Rattle.td_ast.specs.declared.token.TokenKind.TheVariants.{Name, Number, Int, Typedef, Struct, Casetype, Enum, Switch, Case, Default, Entrypoint, Output, Where, Mutable, Unit, AllBytes, AllZeros, Sizeof, This, If, Else, Return, Abort, Var, FieldPos, FieldPtr, IsRangeOkay, True, False, Pointer, Define, Act, Check, OnSuccess, ByteSize, SingleElement, Zeroterm, AndAnd, OrOr, EqualEqual, NotEqual, LessEqual, GreaterEqual, ShiftLeft, ShiftRight, Arrow, Plus, Minus, Star, Slash, Percent, Ampersand, Bar, Caret, Tilde, Bang, Less, Greater, Assign, Question, Colon, Semicolon, Comma, OpenParen, CloseParen, OpenBrace, CloseBrace, OpenBracket, CloseBracket, Dot, Copy}
use Rattle.td_ast.specs.Kinds.{number_of_kind}
use Rattle.td_lexer.specs.Bytes.{is_blank, is_letter, is_word_byte, is_marked_byte, opens, every, first_is}
use Rattle.td_lexer.specs.Spellings.{Entry, kind_in, punctuation_of_two}
use Rattle.td_lexer.specs.Splits.{is_comment_byte}
use Rattle.td_lexer.proofs.Complete.{numeral_some}
use Rattle.td_print_layout.specs.Pieces.{Piece, Word, Blank, LineEnd, number_spelling, type_spelling, spelling, text_of}
use Rattle.td_print_layout.specs.Joining.{is_word, is_word_or_marked, there_is, joins, goes_on, glues, glues_to, IsSpellable, IsApart}
use Rattle.td_print_layout.proofs.Numerals.{number_spelled}
use Rattle.td_print_layout.proofs.Forms.{first_of_every, numeral_words, none_in}

-- ---- bytes that join no punctuation

-- a byte that is the second of no punctuation of two, begins no comment and is no colon
abbrev is_plain : ℕ → Bool
is_plain b = not (eqb b 38 || (eqb b 124 || (eqb b 61 || (eqb b 60 || (eqb b 62 || (eqb b 47 || (eqb b 42 || eqb b 58)))))))

abbrev ends_plainly : List ℕ → Bool
ends_plainly [] = false
ends_plainly (a ∷ []) = false
ends_plainly (a ∷ b ∷ bytes) = not (is_plain b)

word_plain : (b : ℕ) → is_word_byte b ≡ true → is_plain b ≡ true
word_plain b e = grind (arith, nat_tests)

no_comment : (b : ℕ) → is_plain b ≡ true → is_comment_byte b ≡ false
no_comment b e = grind (arith, nat_tests)

no_colon : (b : ℕ) → is_plain b ≡ true → eqb b 58 ≡ false
no_colon b e = grind (arith, nat_tests)

plain_apart : (bytes : List ℕ) (b : ℕ) (rest : List ℕ) → is_plain b ≡ true → joins bytes (b ∷ rest) ≡ false
plain_apart [] b rest e = refl
plain_apart (a ∷ []) b rest e =
    let none : kind_in punctuation_of_two (a ∷ b ∷ []) ≡ None = none_in ends_plainly punctuation_of_two (a ∷ b ∷ []) refl (rw e refl) in
    rw (none, no_comment b e, no_colon b e, and-false (eqb a 47), and-false (opens a)) refl
plain_apart (a ∷ c ∷ bytes) b rest e = refl

-- ---- blanks

apart_cases : (kind : TokenKind) (b : ℕ) (rest : List ℕ) → is_word_byte b ≡ false → is_marked_byte b ≡ false → is_plain b ≡ true → goes_on kind (b ∷ rest) ≡ false
apart_cases kind b rest e f g = by_tests (is_word kind) (is_word_or_marked kind)
  where
    by_tests : (c d : Bool) → cond c (is_word_byte b) (cond d (is_marked_byte b) (joins (spelling kind) (b ∷ rest))) ≡ false
    by_tests true d = e
    by_tests false true = f
    by_tests false false = plain_apart (spelling kind) b rest g

-- ---- the next token

-- a word or number has a first byte, which is one of a word
first_word : (next : TokenKind) → IsSpellable next → is_word next ≡ true → first_is is_word_byte (spelling next) ≡ true
first_word (Name text) spellable w = begin text spellable.0
  where
    begin : (text : List ℕ) → first_is is_letter text ≡ true → first_is is_word_byte text ≡ true
    begin [] e = e
    begin (b ∷ text) e = rw e refl
first_word (Number n base) spellable w =
    let spelled = number_spelled n base spellable in
    first_of_every is_word_byte (number_spelling n base) (numeral_some base (number_spelling n base) spelled.0) (numeral_words base (number_spelling n base) spelled.0)
first_word (Int t) spellable w = by_type t.width t.order
  where
    by_type : (width : Width) (order : ByteOrder) → first_is is_word_byte (type_spelling width order) ≡ true
    by_type One LittleEndian = refl
    by_type One BigEndian = refl
    by_type Two LittleEndian = refl
    by_type Two BigEndian = refl
    by_type Four LittleEndian = refl
    by_type Four BigEndian = refl
    by_type Eight LittleEndian = refl
    by_type Eight BigEndian = refl
first_word Typedef spellable w = refl
first_word Struct spellable w = refl
first_word Casetype spellable w = refl
first_word Enum spellable w = refl
first_word Switch spellable w = refl
first_word Case spellable w = refl
first_word Default spellable w = refl
first_word Entrypoint spellable w = refl
first_word Output spellable w = refl
first_word Where spellable w = refl
first_word Mutable spellable w = refl
first_word Unit spellable w = refl
first_word AllBytes spellable w = refl
first_word AllZeros spellable w = refl
first_word Sizeof spellable w = refl
first_word This spellable w = refl
first_word If spellable w = refl
first_word Else spellable w = refl
first_word Return spellable w = refl
first_word Abort spellable w = refl
first_word Var spellable w = refl
first_word FieldPos spellable w = refl
first_word FieldPtr spellable w = refl
first_word IsRangeOkay spellable w = refl
first_word True spellable w = refl
first_word False spellable w = refl
first_word Pointer spellable w = refl
first_word Define spellable w = absurd cc
first_word Act spellable w = absurd cc
first_word Check spellable w = absurd cc
first_word OnSuccess spellable w = absurd cc
first_word ByteSize spellable w = absurd cc
first_word SingleElement spellable w = absurd cc
first_word Zeroterm spellable w = absurd cc
first_word AndAnd spellable w = absurd cc
first_word OrOr spellable w = absurd cc
first_word EqualEqual spellable w = absurd cc
first_word NotEqual spellable w = absurd cc
first_word LessEqual spellable w = absurd cc
first_word GreaterEqual spellable w = absurd cc
first_word ShiftLeft spellable w = absurd cc
first_word ShiftRight spellable w = absurd cc
first_word Arrow spellable w = absurd cc
first_word Plus spellable w = absurd cc
first_word Minus spellable w = absurd cc
first_word Star spellable w = absurd cc
first_word Slash spellable w = absurd cc
first_word Percent spellable w = absurd cc
first_word Ampersand spellable w = absurd cc
first_word Bar spellable w = absurd cc
first_word Caret spellable w = absurd cc
first_word Tilde spellable w = absurd cc
first_word Bang spellable w = absurd cc
first_word Less spellable w = absurd cc
first_word Greater spellable w = absurd cc
first_word Assign spellable w = absurd cc
first_word Question spellable w = absurd cc
first_word Colon spellable w = absurd cc
first_word Semicolon spellable w = absurd cc
first_word Comma spellable w = absurd cc
first_word OpenParen spellable w = absurd cc
first_word CloseParen spellable w = absurd cc
first_word OpenBrace spellable w = absurd cc
first_word CloseBrace spellable w = absurd cc
first_word OpenBracket spellable w = absurd cc
first_word CloseBracket spellable w = absurd cc
first_word Dot spellable w = absurd cc
first_word Copy spellable w = absurd cc

-- where a word or number follows, just a word, a number or a word with a mark goes on
word_follows : (kind next : TokenKind) (rest : List ℕ) → IsSpellable next → is_word next ≡ true → is_word_or_marked kind ≡ false → goes_on kind (spelling next ++ rest) ≡ false
word_follows kind next rest spellable word never = by_bytes (spelling next) (first_word next spellable word)
  where
    not_word : (n : ℕ) → (nat_lt n 37 || eqb n 70) ≡ false → nat_lt n 30 ≡ false
    not_word n e = grind (arith, nat_tests)

    by_bytes : (bytes : List ℕ) → first_is is_word_byte bytes ≡ true → goes_on kind (bytes ++ rest) ≡ false
    by_bytes [] e = absurd cc
    by_bytes (b ∷ bytes) e = rw (not_word (number_of_kind kind) never, never) (plain_apart (spelling kind) b (bytes ++ rest) (word_plain b e))

-- only the first byte matters
joins_first : (bytes : List ℕ) (b : ℕ) (more rest : List ℕ) → joins bytes (b ∷ (more ++ rest)) ≡ joins bytes (b ∷ more)
joins_first [] b more rest = refl
joins_first (a ∷ []) b more rest = refl
joins_first (a ∷ c ∷ bytes) b more rest = refl

first_matters : (kind : TokenKind) (b : ℕ) (more rest : List ℕ) → goes_on kind (b ∷ (more ++ rest)) ≡ goes_on kind (b ∷ more)
first_matters kind b more rest = by_tests (is_word kind) (is_word_or_marked kind)
  where
    by_tests : (c d : Bool) → cond c (is_word_byte b) (cond d (is_marked_byte b) (joins (spelling kind) (b ∷ (more ++ rest)))) ≡ cond c (is_word_byte b) (cond d (is_marked_byte b) (joins (spelling kind) (b ∷ more)))
    by_tests true d = refl
    by_tests false true = refl
    by_tests false false = joins_first (spelling kind) b more rest

punctuation_follows : (kind : TokenKind) (bytes rest : List ℕ) → 0 < length bytes → goes_on kind bytes ≡ false → goes_on kind (bytes ++ rest) ≡ false
punctuation_follows kind [] rest some e = absurd (omega arith)
punctuation_follows kind (b ∷ more) rest some e = first_matters kind b more rest ∙ e

-- no spelling is empty
some_spelling : (kind : TokenKind) → is_word kind ≡ false → 0 < length (spelling kind)
some_spelling (Name text) e = absurd cc
some_spelling (Number n base) e = absurd cc
some_spelling (Int t) e = absurd cc
some_spelling Typedef e = absurd cc
some_spelling Struct e = absurd cc
some_spelling Casetype e = absurd cc
some_spelling Enum e = absurd cc
some_spelling Switch e = absurd cc
some_spelling Case e = absurd cc
some_spelling Default e = absurd cc
some_spelling Entrypoint e = absurd cc
some_spelling Output e = absurd cc
some_spelling Where e = absurd cc
some_spelling Mutable e = absurd cc
some_spelling Unit e = absurd cc
some_spelling AllBytes e = absurd cc
some_spelling AllZeros e = absurd cc
some_spelling Sizeof e = absurd cc
some_spelling This e = absurd cc
some_spelling If e = absurd cc
some_spelling Else e = absurd cc
some_spelling Return e = absurd cc
some_spelling Abort e = absurd cc
some_spelling Var e = absurd cc
some_spelling FieldPos e = absurd cc
some_spelling FieldPtr e = absurd cc
some_spelling IsRangeOkay e = absurd cc
some_spelling True e = absurd cc
some_spelling False e = absurd cc
some_spelling Pointer e = absurd cc
some_spelling Define e = omega arith
some_spelling Act e = omega arith
some_spelling Check e = omega arith
some_spelling OnSuccess e = omega arith
some_spelling ByteSize e = omega arith
some_spelling SingleElement e = omega arith
some_spelling Zeroterm e = omega arith
some_spelling AndAnd e = omega arith
some_spelling OrOr e = omega arith
some_spelling EqualEqual e = omega arith
some_spelling NotEqual e = omega arith
some_spelling LessEqual e = omega arith
some_spelling GreaterEqual e = omega arith
some_spelling ShiftLeft e = omega arith
some_spelling ShiftRight e = omega arith
some_spelling Arrow e = omega arith
some_spelling Plus e = omega arith
some_spelling Minus e = omega arith
some_spelling Star e = omega arith
some_spelling Slash e = omega arith
some_spelling Percent e = omega arith
some_spelling Ampersand e = omega arith
some_spelling Bar e = omega arith
some_spelling Caret e = omega arith
some_spelling Tilde e = omega arith
some_spelling Bang e = omega arith
some_spelling Less e = omega arith
some_spelling Greater e = omega arith
some_spelling Assign e = omega arith
some_spelling Question e = omega arith
some_spelling Colon e = omega arith
some_spelling Semicolon e = omega arith
some_spelling Comma e = omega arith
some_spelling OpenParen e = omega arith
some_spelling CloseParen e = omega arith
some_spelling OpenBrace e = omega arith
some_spelling CloseBrace e = omega arith
some_spelling OpenBracket e = omega arith
some_spelling CloseBracket e = omega arith
some_spelling Dot e = omega arith
some_spelling Copy e = omega arith

next_follows : (kind next : TokenKind) (rest : List ℕ) → IsSpellable next → glues kind next ≡ false → goes_on kind (spelling next ++ rest) ≡ false
next_follows kind next rest spellable never = by_test (is_word next) refl never
  where
    by_test : (c : Bool) → is_word next ≡ c → cond c (is_word_or_marked kind) (goes_on kind (spelling next)) ≡ false → goes_on kind (spelling next ++ rest) ≡ false
    by_test true e never = word_follows kind next rest spellable e never
    by_test false e never = punctuation_follows kind (spelling next) rest (some_spelling next e) never

nothing_follows : (kind : TokenKind) → goes_on kind [] ≡ false
nothing_follows kind = by_tests (is_word kind) (is_word_or_marked kind)
  where
    none : (bytes : List ℕ) → joins bytes [] ≡ false
    none [] = refl
    none (a ∷ []) = refl
    none (a ∷ b ∷ bytes) = refl

    by_tests : (c d : Bool) → cond c false (cond d false (joins (spelling kind) [])) ≡ false
    by_tests true d = refl
    by_tests false true = refl
    by_tests false false = none (spelling kind)

-- a token that glues to nothing behind it doesn't go on in their text
pub pieces_follow : (kind : TokenKind) (pieces : List Piece) → IsApart pieces → glues_to kind pieces ≡ false → goes_on kind (text_of pieces) ≡ false
pieces_follow kind [] apart never = nothing_follows kind
pieces_follow kind (Word next ∷ pieces) apart never = next_follows kind next (text_of pieces) apart.0 never
pieces_follow kind (Blank ∷ pieces) apart never = apart_cases kind 32 (text_of pieces) refl refl refl
pieces_follow kind (LineEnd ∷ pieces) apart never = apart_cases kind 10 (text_of pieces) refl refl refl
