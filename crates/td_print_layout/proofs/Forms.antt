-- What a token looks like by its bytes.
use Rattle.std.proofs.Common.{◌≡◌, ℕ, suc, ◌+◌, ◌≤◌, ◌<◌, Bool, true, false, cond, eqb, List, [], ◌∷◌, ◌++◌, length, Option, Some, None, refl, sym, ap, arith, inl, inr}
use Rattle.std.specs.Prelude.{◌||◌, ◌⊎◌, not, codes}
use Rattle.std.proofs.lemmas.Bool.Decides.{nat_tests}
use Rattle.std.proofs.lemmas.Bool.{and_from}
use Rattle.td_ast.specs.declared.token.Base.{Base}
use Rattle.td_ast.specs.declared.token.Base.TheVariants.{Decimal, Hexadecimal}
use Rattle.td_ast.specs.declared.token.TokenKind.{TokenKind}
use Rattle.td_lexer.specs.Bytes.{is_blank, is_letter, is_digit, is_word_byte, is_marked_byte, is_hexadecimal, is_hexadecimal_mark, opens, every, first_is}
use Rattle.td_lexer.specs.Spellings.{Entry, kind_in, marked_words, punctuation_of_two, single_kind}
use Rattle.td_lexer.specs.Splits.{IsNumeral, Begins}
use Rattle.td_lexer.specs.Splits.Begins.{keyword_begins, name_begins, number_begins, marked_begins, punctuation_begins}
use Rattle.td_lexer.proofs.Within.{and_left, and_right}
use Rattle.td_lexer.proofs.Sorts.{passes, kind_passes, or_else_cases, is_punctuation_byte, is_marked_shape, is_pair_shape, is_single_shape, is_word_shape, keyword_shape, marked_shape, pair_shape, single_shape}
use Rattle.td_lexer.proofs.Complete.{numeral_some}

-- ---- sorts of bytes

letter_in_word : (b : ℕ) → is_letter b ≡ true → is_word_byte b ≡ true
letter_in_word b e = rw e refl

digit_in_word : (b : ℕ) → is_digit b ≡ true → is_word_byte b ≡ true
digit_in_word b e = grind (arith, nat_tests)

hexadecimal_in_word : (b : ℕ) → is_hexadecimal b ≡ true → is_word_byte b ≡ true
hexadecimal_in_word b e = grind (arith, nat_tests)

mark_in_word : (b : ℕ) → is_hexadecimal_mark b ≡ true → is_word_byte b ≡ true
mark_in_word b e = grind (arith, nat_tests)

-- a byte of a word is none with which punctuation begins
pub no_punctuation : (b : ℕ) → is_word_byte b ≡ true → is_punctuation_byte b ≡ true → ⊥
no_punctuation b e f = grind (arith, nat_tests)

pub every_wider : (p q : ℕ → Bool) → ((b : ℕ) → p b ≡ true → q b ≡ true) → (bytes : List ℕ) → every p bytes ≡ true → every q bytes ≡ true
every_wider p q wide [] e = refl
every_wider p q wide (b ∷ bytes) e = and_from (q b) (every q bytes) (wide b (and_left (p b) (every p bytes) e)) (every_wider p q wide bytes (and_right (p b) (every p bytes) e))

pub first_of_every : (p : ℕ → Bool) (bytes : List ℕ) → 0 < length bytes → every p bytes ≡ true → first_is p bytes ≡ true
first_of_every p [] some e = absurd (omega arith)
first_of_every p (b ∷ bytes) some e = and_left (p b) (every p bytes) e

-- ---- beginnings

-- bytes of a sort, behind which none of the sort stands, are the most at the beginning
pub most : (sort : ℕ → Bool) (others after bytes rest : List ℕ) → others ++ after ≡ bytes ++ rest → every sort others ≡ true → first_is sort rest ≡ false → length others ≤ length bytes
most sort [] after bytes rest same all ends = omega arith
most sort (b ∷ others) after [] [] same all ends = absurd cc
most sort (b ∷ others) after [] (c ∷ rest) same all ends =
    let first : b ≡ c = cc in
    absurd (both (sort b) (and_left (sort b) (every sort others) all) (rw first ends))
  where
    both : (t : Bool) → t ≡ true → t ≡ false → ⊥
    both t e f = cc
most sort (b ∷ others) after (c ∷ bytes) rest same all ends =
    let tail : others ++ after ≡ bytes ++ rest = cc in
    let le = most sort others after bytes rest tail (and_right (sort b) (every sort others) all) ends in
    omega arith

-- two beginnings of the same bytes have the same first byte
pub firsts : (p q : ℕ → Bool) → ((b : ℕ) → p b ≡ true → q b ≡ true → ⊥) → (others after bytes rest : List ℕ) → others ++ after ≡ bytes ++ rest → first_is p others ≡ true → first_is q bytes ≡ true → ⊥
firsts p q never [] after bytes rest same e f = cc
firsts p q never (b ∷ others) after [] rest same e f = cc
firsts p q never (b ∷ others) after (c ∷ bytes) rest same e f =
    let first : b ≡ c = cc in
    never c (rw first at e) f

-- ---- forms

-- bytes of a word or number; a word with a mark; punctuation of two bytes; punctuation of one byte
pub data Form : List ℕ → Type 0 where
  word_form : {bytes : List ℕ} → first_is is_word_byte bytes ≡ true → every is_word_byte bytes ≡ true → Form bytes
  marked_form : {bytes : List ℕ} (kind : TokenKind) → kind_in marked_words bytes ≡ Some kind → is_marked_shape bytes ≡ true → Form bytes
  pair_form : {bytes : List ℕ} (kind : TokenKind) → kind_in punctuation_of_two bytes ≡ Some kind → is_pair_shape bytes ≡ true → Form bytes
  single_form : {bytes : List ℕ} → is_single_shape bytes ≡ true → Form bytes

pub word_shape_form : (bytes : List ℕ) → first_is is_letter bytes ≡ true → every is_word_byte bytes ≡ true → Form bytes
word_shape_form [] e all = absurd cc
word_shape_form (b ∷ bytes) e all = word_form (letter_in_word b e) all

pub numeral_words : (base : Base) (bytes : List ℕ) → IsNumeral base bytes → every is_word_byte bytes ≡ true
numeral_words Decimal bytes h = every_wider is_digit is_word_byte digit_in_word bytes h.1
numeral_words Hexadecimal bytes (mark, digits, same, is_mark, some, all) = rw same (and_from (is_word_byte mark) (every is_word_byte digits) (mark_in_word mark is_mark) (every_wider is_hexadecimal is_word_byte hexadecimal_in_word digits all))

numeral_form : (base : Base) (bytes : List ℕ) → IsNumeral base bytes → Form bytes
numeral_form base bytes h = word_form (first_of_every is_word_byte bytes (numeral_some base bytes h) (numeral_words base bytes h)) (numeral_words base bytes h)

pub form : {kind : TokenKind} {bytes rest : List ℕ} → Begins kind bytes rest → Form bytes
form {kind} {bytes} (keyword_begins e) =
    let shape = keyword_shape bytes kind e in
    word_shape_form bytes (and_left (first_is is_letter bytes) (every is_word_byte bytes) shape) (and_right (first_is is_letter bytes) (every is_word_byte bytes) shape)
form {bytes} (name_begins (first, all, none)) = word_shape_form bytes first all
form {bytes} (number_begins base h small ends) = numeral_form base bytes h
form {kind} {bytes} (marked_begins e ends) = marked_form kind e (marked_shape bytes kind e)
form {kind} {bytes} (punctuation_begins e slash) =
    elim (or_else_cases (kind_in punctuation_of_two bytes) (single_kind bytes) kind e) [
      | inl pair ↦ pair_form kind pair (pair_shape bytes kind pair)
      | inr single ↦ single_form (single_shape bytes kind single)
    ]

-- ---- tables

-- bytes of which a test doesn't hold are in no table of spellings of which it does
pub none_in : (test : List ℕ → Bool) (table : List Entry) (bytes : List ℕ) → passes test table ≡ true → test bytes ≡ false → kind_in table bytes ≡ None
none_in test table bytes all never = by_kind (kind_in table bytes) refl
  where
    by_kind : (o : Option TokenKind) → kind_in table bytes ≡ o → o ≡ None
    by_kind None e = refl
    by_kind (Some kind) e = absurd (cc (never, kind_passes test table bytes kind all e))
