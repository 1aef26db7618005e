-- A token stands before bytes in which it doesn't go on.
use Rattle.std.proofs.Common.{◌≡◌, ℕ, suc, ◌+◌, ◌≤◌, ◌<◌, ◌^◌, Bool, true, false, cond, eqb, List, [], ◌∷◌, ◌++◌, length, Option, Some, None, refl, sym, ap, subst, ◌∙◌, arith}
use Rattle.std.specs.Prelude.{◌&&◌, ◌||◌, not, codes}
use Rattle.std.proofs.lemmas.Bool.{or_parts}
use Rattle.td_num.specs.declared.number.Width.{Width}
use Rattle.td_num.specs.declared.number.Width.TheVariants.{One, Two, Four, Eight}
use Rattle.td_num.specs.declared.number.ByteOrder.{ByteOrder}
use Rattle.td_num.specs.declared.number.ByteOrder.TheVariants.{LittleEndian, BigEndian}
use Rattle.td_ast.specs.declared.token.Base.{Base}
use Rattle.td_ast.specs.declared.token.TokenKind.{TokenKind}
use Rattle.td_ast.specs.declared.token.TokenKind.TheVariants.{Name, Number, Int, Typedef, Struct, Casetype, Enum, Switch, Case, Default, Entrypoint, Output, Where, Mutable, Unit, AllBytes, AllZeros, Sizeof, This, If, Else, Return, Abort, Var, FieldPos, FieldPtr, IsRangeOkay, True, False, Pointer, Define, Act, Check, OnSuccess, ByteSize, SingleElement, Zeroterm, AndAnd, OrOr, EqualEqual, NotEqual, LessEqual, GreaterEqual, ShiftLeft, ShiftRight, Arrow, Plus, Minus, Star, Slash, Percent, Ampersand, Bar, Caret, Tilde, Bang, Less, Greater, Assign, Question, Colon, Semicolon, Comma, OpenParen, CloseParen, OpenBrace, CloseBrace, OpenBracket, CloseBracket, Dot, Copy}
use Rattle.td_lexer.specs.Bytes.{is_letter, is_word_byte, is_marked_byte, opens, every, first_is}
use Rattle.td_lexer.specs.Spellings.{kind_in, keyword_kind, marked_words, punctuation_of_two, punctuation_kind, number}
use Rattle.td_lexer.specs.Numerals.{numeral_value}
use Rattle.td_lexer.specs.Splits.{Begins, Stands, is_comment_byte}
use Rattle.td_lexer.specs.Splits.Begins.{keyword_begins, name_begins, number_begins, marked_begins, punctuation_begins}
use Rattle.td_lexer.proofs.Within.{and_left, and_right}
use Rattle.td_lexer.proofs.Sorts.{kind_passes, is_punctuation_byte, is_marked_shape, is_pair_shape, is_single_shape, not_true}
use Rattle.td_lexer.proofs.Complete.{numeral_some}
use Rattle.td_print_layout.specs.Pieces.{number_spelling, spelling, type_spelling}
use Rattle.td_print_layout.specs.Joining.{there_is, joins, goes_on, IsSpellable}
use Rattle.td_print_layout.proofs.Numerals.{number_spelled}
use Rattle.td_print_layout.proofs.Forms.{Form, form, most, firsts, no_punctuation, first_of_every, numeral_words, word_shape_form}
use Rattle.td_print_layout.proofs.Forms.Form.{word_form, marked_form, pair_form, single_form}

-- no token that begins here is longer than the bytes
abbrev Longest : List ℕ → List ℕ → Type 0
Longest bytes rest = (others after : List ℕ) → others ++ after ≡ bytes ++ rest → Form others → length others ≤ length bytes

stands : {kind : TokenKind} {bytes rest : List ℕ} → Begins kind bytes rest → Longest bytes rest → Stands kind bytes rest
stands begins longest = (begins, λ other others after same b. longest others after same (form b))

no_swap : (b : ℕ) → is_punctuation_byte b ≡ true → is_word_byte b ≡ true → ⊥
no_swap b e f = no_punctuation b f e

-- ---- the first byte of punctuation

marked_first : (bytes : List ℕ) → is_marked_shape bytes ≡ true → first_is is_punctuation_byte bytes ≡ true
marked_first [] e = absurd cc
marked_first (a ∷ []) e = absurd cc
marked_first (a ∷ b ∷ bytes) e =
    let t = not (eqb a 47) && cond (eqb b 58) (every is_marked_byte bytes) (every is_marked_byte (b ∷ bytes)) in
    and_left (is_punctuation_byte a) t (and_right (opens a) (is_punctuation_byte a && t) e)

pair_first : (bytes : List ℕ) → is_pair_shape bytes ≡ true → first_is is_punctuation_byte bytes ≡ true
pair_first [] e = absurd cc
pair_first (a ∷ []) e = absurd cc
pair_first (a ∷ b ∷ []) e = and_left (is_punctuation_byte a) (not (eqb a 47)) (and_right (not (opens a)) (is_punctuation_byte a && not (eqb a 47)) e)
pair_first (a ∷ b ∷ c ∷ bytes) e = absurd cc

single_first : (bytes : List ℕ) → is_single_shape bytes ≡ true → first_is is_punctuation_byte bytes ≡ true
single_first [] e = absurd cc
single_first (a ∷ []) e = e
single_first (a ∷ b ∷ bytes) e = absurd cc

-- punctuation has at most two bytes
pair_two : (bytes : List ℕ) → is_pair_shape bytes ≡ true → length bytes ≤ 2
pair_two [] e = omega arith
pair_two (a ∷ []) e = omega arith
pair_two (a ∷ b ∷ []) e = omega arith
pair_two (a ∷ b ∷ c ∷ bytes) e = absurd cc

single_one : (bytes : List ℕ) → is_single_shape bytes ≡ true → length bytes ≤ 1
single_one [] e = omega arith
single_one (a ∷ []) e = omega arith
single_one (a ∷ b ∷ bytes) e = absurd cc

-- ---- words and numbers

word_longest : (bytes rest : List ℕ) → first_is is_word_byte bytes ≡ true → first_is is_word_byte rest ≡ false → Longest bytes rest
word_longest bytes rest word ends others after same (word_form first all) = most is_word_byte others after bytes rest same all ends
word_longest bytes rest word ends others after same (marked_form kind e shape) = absurd (firsts is_punctuation_byte is_word_byte no_swap others after bytes rest same (marked_first others shape) word)
word_longest bytes rest word ends others after same (pair_form kind e shape) = absurd (firsts is_punctuation_byte is_word_byte no_swap others after bytes rest same (pair_first others shape) word)
word_longest bytes rest word ends others after same (single_form shape) = absurd (firsts is_punctuation_byte is_word_byte no_swap others after bytes rest same (single_first others shape) word)

keyword_stands : (kind : TokenKind) (bytes rest : List ℕ) → keyword_kind bytes ≡ Some kind → first_is is_word_byte bytes ≡ true → first_is is_word_byte rest ≡ false → Stands kind bytes rest
keyword_stands kind bytes rest e word ends = stands (keyword_begins e) (word_longest bytes rest word ends)

name_stands : (text rest : List ℕ) → IsSpellable (Name text) → first_is is_word_byte rest ≡ false → Stands (Name text) text rest
name_stands text rest (first, all, none) ends = stands (name_begins (first, all, none)) (word_longest text rest (begin text first) ends)
  where
    begin : (text : List ℕ) → first_is is_letter text ≡ true → first_is is_word_byte text ≡ true
    begin [] e = e
    begin (b ∷ text) e = rw e refl

number_stands : (n : ℕ) (base : Base) (rest : List ℕ) → n < 2 ^ 64 → first_is is_word_byte rest ≡ false → Stands (Number n base) (number_spelling n base) rest
number_stands n base rest small ends =
    let bytes = number_spelling n base in
    let spelled = number_spelled n base small in
    let first = first_of_every is_word_byte bytes (numeral_some base bytes spelled.0) (numeral_words base bytes spelled.0) in
    subst (λ (m : ℕ). Stands (Number m base) bytes rest) spelled.1
    (stands (number_begins base spelled.0 (rw spelled.1 small) ends) (word_longest bytes rest first ends))

-- ---- words with a mark

marked_tail : (c : Bool) (b : ℕ) (bytes : List ℕ) → cond c (every is_marked_byte bytes) (every is_marked_byte (b ∷ bytes)) ≡ true → every is_marked_byte bytes ≡ true
marked_tail true b bytes e = e
marked_tail false b bytes e = and_right (is_marked_byte b) (every is_marked_byte bytes) e

marked_rest : (a b : ℕ) (bytes : List ℕ) → is_marked_shape (a ∷ b ∷ bytes) ≡ true → every is_marked_byte bytes ≡ true
marked_rest a b bytes e =
    let t = cond (eqb b 58) (every is_marked_byte bytes) (every is_marked_byte (b ∷ bytes)) in
    marked_tail (eqb b 58) b bytes (and_right (not (eqb a 47)) t (and_right (is_punctuation_byte a) (not (eqb a 47) && t) (and_right (opens a) (is_punctuation_byte a && (not (eqb a 47) && t)) e)))

marked_longest : (a b : ℕ) (bytes rest : List ℕ) → is_punctuation_byte a ≡ true → first_is is_marked_byte rest ≡ false → Longest (a ∷ b ∷ bytes) rest
marked_longest a b bytes rest mark ends others after same (word_form first all) = absurd (firsts is_word_byte is_punctuation_byte no_punctuation others after (a ∷ b ∷ bytes) rest same first mark)
marked_longest a b bytes rest mark ends others after same (marked_form kind e shape) = by_bytes others shape same
  where
    by_bytes : (others : List ℕ) → is_marked_shape others ≡ true → others ++ after ≡ a ∷ b ∷ (bytes ++ rest) → length others ≤ suc (suc (length bytes))
    by_bytes [] shape same = omega arith
    by_bytes (c ∷ []) shape same = omega arith
    by_bytes (c ∷ d ∷ others) shape same =
        let tail : others ++ after ≡ bytes ++ rest = cc in
        let le = most is_marked_byte others after bytes rest tail (marked_rest c d others shape) ends in
        omega arith
marked_longest a b bytes rest mark ends others after same (pair_form kind e shape) = omega (arith, pair_two others shape)
marked_longest a b bytes rest mark ends others after same (single_form shape) = omega (arith, single_one others shape)

marked_stands : (kind : TokenKind) (a b : ℕ) (bytes rest : List ℕ) → kind_in marked_words (a ∷ b ∷ bytes) ≡ Some kind → is_punctuation_byte a ≡ true → first_is is_marked_byte rest ≡ false → Stands kind (a ∷ b ∷ bytes) rest
marked_stands kind a b bytes rest e mark ends = stands (marked_begins e ends) (marked_longest a b bytes rest mark ends)

-- ---- punctuation of two bytes

pair_longest : (a b : ℕ) (rest : List ℕ) → is_punctuation_byte a ≡ true → opens a ≡ false → Longest (a ∷ b ∷ []) rest
pair_longest a b rest mark never others after same (word_form first all) = absurd (firsts is_word_byte is_punctuation_byte no_punctuation others after (a ∷ b ∷ []) rest same first mark)
pair_longest a b rest mark never others after same (marked_form kind e shape) = by_bytes others shape same
  where
    by_bytes : (others : List ℕ) → is_marked_shape others ≡ true → others ++ after ≡ a ∷ b ∷ rest → length others ≤ 2
    by_bytes [] shape same = omega arith
    by_bytes (c ∷ []) shape same = omega arith
    by_bytes (c ∷ d ∷ others) shape same =
        let first : c ≡ a = cc in
        let open_mark = and_left (opens c) (is_punctuation_byte c && (not (eqb c 47) && cond (eqb d 58) (every is_marked_byte others) (every is_marked_byte (d ∷ others)))) shape in
        absurd (differ (rw first at open_mark))
      where
        differ : opens a ≡ true → ⊥
        differ e = cc (e, never)
pair_longest a b rest mark never others after same (pair_form kind e shape) = pair_two others shape
pair_longest a b rest mark never others after same (single_form shape) = omega (arith, single_one others shape)

pair_stands : (kind : TokenKind) (a b : ℕ) (rest : List ℕ) → punctuation_kind (a ∷ b ∷ []) ≡ Some kind → is_punctuation_byte a ≡ true → opens a ≡ false → Stands kind (a ∷ b ∷ []) rest
pair_stands kind a b rest e mark never = stands (punctuation_begins e (λ slash. absurd (omega (arith, ap (λ (l : List ℕ). length l) slash)))) (pair_longest a b rest mark never)

-- ---- punctuation of one byte

-- a word with a mark begins with `#`, or has a colon for its second byte
abbrev has_mark : List ℕ → Bool
has_mark [] = false
has_mark (a ∷ []) = false
has_mark (a ∷ b ∷ bytes) = eqb a 35 || (opens a && eqb b 58)

single_longest : (a : ℕ) (rest : List ℕ) → is_punctuation_byte a ≡ true → eqb a 35 ≡ false → joins (a ∷ []) rest ≡ false → Longest (a ∷ []) rest
single_longest a rest mark never ends others after same (word_form first all) = absurd (firsts is_word_byte is_punctuation_byte no_punctuation others after (a ∷ []) rest same first mark)
single_longest a rest mark never ends others after same (marked_form kind e shape) = by_bytes others rest (kind_passes has_mark marked_words others kind refl e) same ends
  where
    neither : (x y z w : Bool) → x ≡ false → (y || (z || w)) ≡ false → (x || w) ≡ true → ⊥
    neither false true z w e f g = cc
    neither false false true w e f g = cc
    neither false false false w e f g = cc (f, g)
    neither true y z w e f g = cc

    by_bytes : (others rest : List ℕ) → has_mark others ≡ true → others ++ after ≡ a ∷ rest → joins (a ∷ []) rest ≡ false → length others ≤ 1
    by_bytes [] rest has same ends = omega arith
    by_bytes (c ∷ []) rest has same ends = omega arith
    by_bytes (c ∷ d ∷ others) [] has same ends = absurd cc
    by_bytes (c ∷ d ∷ others) (b ∷ rest) has same ends =
        let first : c ≡ a = cc in
        let second : d ≡ b = cc in
        absurd (neither (eqb a 35) (there_is (kind_in punctuation_of_two (a ∷ b ∷ []))) (eqb a 47 && is_comment_byte b) (opens a && eqb b 58) never ends (rw (first, second) at has))
single_longest a rest mark never ends others after same (pair_form kind e shape) = by_bytes others rest e shape same ends
  where
    by_bytes : (others rest : List ℕ) → kind_in punctuation_of_two others ≡ Some kind → is_pair_shape others ≡ true → others ++ after ≡ a ∷ rest → joins (a ∷ []) rest ≡ false → length others ≤ 1
    by_bytes [] rest e shape same ends = omega arith
    by_bytes (c ∷ []) rest e shape same ends = omega arith
    by_bytes (c ∷ d ∷ []) [] e shape same ends = absurd cc
    by_bytes (c ∷ d ∷ []) (b ∷ rest) e shape same ends =
        let first : c ≡ a = cc in
        let second : d ≡ b = cc in
        let found : kind_in punctuation_of_two (a ∷ b ∷ []) ≡ Some kind = rw (first, second) at e in
        let none = (or_parts (there_is (kind_in punctuation_of_two (a ∷ b ∷ []))) ((eqb a 47 && is_comment_byte b) || (opens a && eqb b 58)) ends).0 in
        absurd (differ (kind_in punctuation_of_two (a ∷ b ∷ [])) found none)
      where
        differ : (o : Option TokenKind) → o ≡ Some kind → there_is o ≡ false → ⊥
        differ None e f = cc
        differ (Some k) e f = cc
    by_bytes (c ∷ d ∷ x ∷ others) rest e shape same ends = absurd cc
single_longest a rest mark never ends others after same (single_form shape) = single_one others shape

-- `/` stands only where neither `/` nor `*` follows
divides : (a : ℕ) (rest : List ℕ) → joins (a ∷ []) rest ≡ false → a ∷ [] ≡ codes "/" → first_is is_comment_byte rest ≡ false
divides a [] ends slash = refl
divides a (b ∷ rest) ends slash =
    let is : a ≡ 47 = cc in
    let others = (or_parts (there_is (kind_in punctuation_of_two (a ∷ b ∷ []))) ((eqb a 47 && is_comment_byte b) || (opens a && eqb b 58)) ends).1 in
    let comment = (or_parts (eqb a 47 && is_comment_byte b) (opens a && eqb b 58) others).0 in
    rw is at comment

single_stands : (kind : TokenKind) (a : ℕ) (rest : List ℕ) → punctuation_kind (a ∷ []) ≡ Some kind → is_punctuation_byte a ≡ true → eqb a 35 ≡ false → joins (a ∷ []) rest ≡ false → Stands kind (a ∷ []) rest
single_stands kind a rest e mark never ends = stands (punctuation_begins e (divides a rest ends)) (single_longest a rest mark never ends)

-- ---- all kinds

type_stands : (width : Width) (order : ByteOrder) (rest : List ℕ) → first_is is_word_byte rest ≡ false → Stands (number width order) (type_spelling width order) rest
type_stands One LittleEndian rest ends = keyword_stands (number One LittleEndian) (codes "UINT8") rest refl refl ends
type_stands One BigEndian rest ends = keyword_stands (number One BigEndian) (codes "UINT8BE") rest refl refl ends
type_stands Two LittleEndian rest ends = keyword_stands (number Two LittleEndian) (codes "UINT16") rest refl refl ends
type_stands Two BigEndian rest ends = keyword_stands (number Two BigEndian) (codes "UINT16BE") rest refl refl ends
type_stands Four LittleEndian rest ends = keyword_stands (number Four LittleEndian) (codes "UINT32") rest refl refl ends
type_stands Four BigEndian rest ends = keyword_stands (number Four BigEndian) (codes "UINT32BE") rest refl refl ends
type_stands Eight LittleEndian rest ends = keyword_stands (number Eight LittleEndian) (codes "UINT64") rest refl refl ends
type_stands Eight BigEndian rest ends = keyword_stands (number Eight BigEndian) (codes "UINT64BE") rest refl refl ends

-- each kind stands before bytes in which it doesn't go on
pub kind_stands : (kind : TokenKind) (rest : List ℕ) → IsSpellable kind → goes_on kind rest ≡ false → Stands kind (spelling kind) rest
kind_stands (Name text) rest spellable ends = name_stands text rest spellable ends
kind_stands (Number n base) rest spellable ends = number_stands n base rest spellable ends
kind_stands (Int t) rest spellable ends = type_stands t.width t.order rest ends
kind_stands Typedef rest spellable ends = keyword_stands Typedef (codes "typedef") rest refl refl ends
kind_stands Struct rest spellable ends = keyword_stands Struct (codes "struct") rest refl refl ends
kind_stands Casetype rest spellable ends = keyword_stands Casetype (codes "casetype") rest refl refl ends
kind_stands Enum rest spellable ends = keyword_stands Enum (codes "enum") rest refl refl ends
kind_stands Switch rest spellable ends = keyword_stands Switch (codes "switch") rest refl refl ends
kind_stands Case rest spellable ends = keyword_stands Case (codes "case") rest refl refl ends
kind_stands Default rest spellable ends = keyword_stands Default (codes "default") rest refl refl ends
kind_stands Entrypoint rest spellable ends = keyword_stands Entrypoint (codes "entrypoint") rest refl refl ends
kind_stands Output rest spellable ends = keyword_stands Output (codes "output") rest refl refl ends
kind_stands Where rest spellable ends = keyword_stands Where (codes "where") rest refl refl ends
kind_stands Mutable rest spellable ends = keyword_stands Mutable (codes "mutable") rest refl refl ends
kind_stands Unit rest spellable ends = keyword_stands Unit (codes "unit") rest refl refl ends
kind_stands AllBytes rest spellable ends = keyword_stands AllBytes (codes "all_bytes") rest refl refl ends
kind_stands AllZeros rest spellable ends = keyword_stands AllZeros (codes "all_zeros") rest refl refl ends
kind_stands Sizeof rest spellable ends = keyword_stands Sizeof (codes "sizeof") rest refl refl ends
kind_stands This rest spellable ends = keyword_stands This (codes "this") rest refl refl ends
kind_stands If rest spellable ends = keyword_stands If (codes "if") rest refl refl ends
kind_stands Else rest spellable ends = keyword_stands Else (codes "else") rest refl refl ends
kind_stands Return rest spellable ends = keyword_stands Return (codes "return") rest refl refl ends
kind_stands Abort rest spellable ends = keyword_stands Abort (codes "abort") rest refl refl ends
kind_stands Var rest spellable ends = keyword_stands Var (codes "var") rest refl refl ends
kind_stands FieldPos rest spellable ends = keyword_stands FieldPos (codes "field_pos") rest refl refl ends
kind_stands FieldPtr rest spellable ends = keyword_stands FieldPtr (codes "field_ptr") rest refl refl ends
kind_stands IsRangeOkay rest spellable ends = keyword_stands IsRangeOkay (codes "is_range_okay") rest refl refl ends
kind_stands True rest spellable ends = keyword_stands True (codes "true") rest refl refl ends
kind_stands False rest spellable ends = keyword_stands False (codes "false") rest refl refl ends
kind_stands Pointer rest spellable ends = keyword_stands Pointer (codes "PUINT8") rest refl refl ends
kind_stands Define rest spellable ends = marked_stands Define 35 100 (codes "efine") rest refl refl ends
kind_stands Act rest spellable ends = marked_stands Act 123 58 (codes "act") rest refl refl ends
kind_stands Check rest spellable ends = marked_stands Check 123 58 (codes "check") rest refl refl ends
kind_stands OnSuccess rest spellable ends = marked_stands OnSuccess 123 58 (codes "on-success") rest refl refl ends
kind_stands ByteSize rest spellable ends = marked_stands ByteSize 91 58 (codes "byte-size") rest refl refl ends
kind_stands SingleElement rest spellable ends = marked_stands SingleElement 91 58 (codes "byte-size-single-element-array") rest refl refl ends
kind_stands Zeroterm rest spellable ends = marked_stands Zeroterm 91 58 (codes "zeroterm-byte-size-at-most") rest refl refl ends
kind_stands AndAnd rest spellable ends = pair_stands AndAnd 38 38 rest refl refl refl
kind_stands OrOr rest spellable ends = pair_stands OrOr 124 124 rest refl refl refl
kind_stands EqualEqual rest spellable ends = pair_stands EqualEqual 61 61 rest refl refl refl
kind_stands NotEqual rest spellable ends = pair_stands NotEqual 33 61 rest refl refl refl
kind_stands LessEqual rest spellable ends = pair_stands LessEqual 60 61 rest refl refl refl
kind_stands GreaterEqual rest spellable ends = pair_stands GreaterEqual 62 61 rest refl refl refl
kind_stands ShiftLeft rest spellable ends = pair_stands ShiftLeft 60 60 rest refl refl refl
kind_stands ShiftRight rest spellable ends = pair_stands ShiftRight 62 62 rest refl refl refl
kind_stands Arrow rest spellable ends = pair_stands Arrow 45 62 rest refl refl refl
kind_stands Plus rest spellable ends = single_stands Plus 43 rest refl refl refl ends
kind_stands Minus rest spellable ends = single_stands Minus 45 rest refl refl refl ends
kind_stands Star rest spellable ends = single_stands Star 42 rest refl refl refl ends
kind_stands Slash rest spellable ends = single_stands Slash 47 rest refl refl refl ends
kind_stands Percent rest spellable ends = single_stands Percent 37 rest refl refl refl ends
kind_stands Ampersand rest spellable ends = single_stands Ampersand 38 rest refl refl refl ends
kind_stands Bar rest spellable ends = single_stands Bar 124 rest refl refl refl ends
kind_stands Caret rest spellable ends = single_stands Caret 94 rest refl refl refl ends
kind_stands Tilde rest spellable ends = single_stands Tilde 126 rest refl refl refl ends
kind_stands Bang rest spellable ends = single_stands Bang 33 rest refl refl refl ends
kind_stands Less rest spellable ends = single_stands Less 60 rest refl refl refl ends
kind_stands Greater rest spellable ends = single_stands Greater 62 rest refl refl refl ends
kind_stands Assign rest spellable ends = single_stands Assign 61 rest refl refl refl ends
kind_stands Question rest spellable ends = single_stands Question 63 rest refl refl refl ends
kind_stands Colon rest spellable ends = single_stands Colon 58 rest refl refl refl ends
kind_stands Semicolon rest spellable ends = single_stands Semicolon 59 rest refl refl refl ends
kind_stands Comma rest spellable ends = single_stands Comma 44 rest refl refl refl ends
kind_stands OpenParen rest spellable ends = single_stands OpenParen 40 rest refl refl refl ends
kind_stands CloseParen rest spellable ends = single_stands CloseParen 41 rest refl refl refl ends
kind_stands OpenBrace rest spellable ends = single_stands OpenBrace 123 rest refl refl refl ends
kind_stands CloseBrace rest spellable ends = single_stands CloseBrace 125 rest refl refl refl ends
kind_stands OpenBracket rest spellable ends = single_stands OpenBracket 91 rest refl refl refl ends
kind_stands CloseBracket rest spellable ends = single_stands CloseBracket 93 rest refl refl refl ends
kind_stands Dot rest spellable ends = single_stands Dot 46 rest refl refl refl ends
kind_stands Copy rest spellable ends = marked_stands Copy 123 58 (codes "copy") rest refl refl ends
