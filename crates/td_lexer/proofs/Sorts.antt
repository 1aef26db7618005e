-- Sorts of bytes exclude one another, and what the spellings of the tables have in common. Cited by other crates.
use Rattle.std.proofs.Common.{◌≡◌, ℕ, Bool, true, false, cond, eqb, List, [], ◌∷◌, Option, Some, None, refl, arith}
use Rattle.std.specs.Prelude.{◌&&◌, not, bytes_eq, ◌⊎◌}
use Rattle.std.proofs.Common.{inl, inr}
use Rattle.std.proofs.lemmas.Bool.Decides.{nat_tests}
use Rattle.std.proofs.lemmas.Slice.Eq.{bytes_eq-Decides}
use Rattle.td_ast.specs.declared.token.TokenKind.{TokenKind}
use Rattle.td_lexer.specs.Bytes.{is_blank, is_letter, is_digit, is_word_byte, is_marked_byte, is_hexadecimal, is_hexadecimal_mark, opens, every, first_is}
use Rattle.td_lexer.specs.Spellings.{Entry, kind_in, or_else, definition_words, expression_words, number_types, marked_words, punctuation_of_two, operators, delimiters, keyword_kind, single_kind}
use Rattle.td_lexer.proofs.Within.{and_left, and_right}

pub letter_no_blank : (b : ℕ) → is_letter b ≡ true → is_blank b ≡ false
letter_no_blank b e = grind (arith, nat_tests)

pub digit_no_blank : (b : ℕ) → is_digit b ≡ true → is_blank b ≡ false
digit_no_blank b e = grind (arith, nat_tests)

pub digit_no_letter : (b : ℕ) → is_digit b ≡ true → is_letter b ≡ false
digit_no_letter b e = grind (arith, nat_tests)

pub digit_no_mark : (b : ℕ) → is_digit b ≡ true → is_hexadecimal_mark b ≡ false
digit_no_mark b e = grind (arith, nat_tests)

pub digit_in_word : (b : ℕ) → is_word_byte b ≡ false → is_digit b ≡ false
digit_in_word b e = grind (arith, nat_tests)

pub mark_in_word : (b : ℕ) → is_word_byte b ≡ false → is_hexadecimal_mark b ≡ false
mark_in_word b e = grind (arith, nat_tests)

pub hexadecimal_in_word : (b : ℕ) → is_word_byte b ≡ false → is_hexadecimal b ≡ false
hexadecimal_in_word b e = grind (arith, nat_tests)

-- no byte of a sort is first where none of a wider one is
pub first_narrower : (p q : ℕ → Bool) → ((b : ℕ) → q b ≡ false → p b ≡ false) → (bytes : List ℕ) → first_is q bytes ≡ false → first_is p bytes ≡ false
first_narrower p q narrow [] e = refl
first_narrower p q narrow (b ∷ bytes) e = narrow b e

-- ---- tables

-- a test holds of each spelling of a table
abbrev pub passes : (List ℕ → Bool) → List Entry → Bool
passes test [] = true
passes test (entry ∷ others) = test entry.0 && passes test others

pub kind_passes : (test : List ℕ → Bool) (table : List Entry) (bytes : List ℕ) (kind : TokenKind) → passes test table ≡ true → kind_in table bytes ≡ Some kind → test bytes ≡ true
kind_passes test [] bytes kind all e = absurd cc
kind_passes test (entry ∷ others) bytes kind all e = by_test (bytes_eq bytes entry.0) refl e (kind_passes test others bytes kind (and_right (test entry.0) (passes test others) all))
  where
    by_test : (c : Bool) → bytes_eq bytes entry.0 ≡ c → cond c (Some entry.1) (kind_in others bytes) ≡ Some kind → (kind_in others bytes ≡ Some kind → test bytes ≡ true) → test bytes ≡ true
    by_test true same e ih = let here : bytes ≡ entry.0 = (bytes_eq-Decides bytes entry.0).0 same in rw here (and_left (test entry.0) (passes test others) all)
    by_test false same e ih = ih e

pub or_else_cases : (a b : Option TokenKind) (kind : TokenKind) → or_else a b ≡ Some kind → (a ≡ Some kind) ⊎ (b ≡ Some kind)
or_else_cases (Some k) b kind e = inl e
or_else_cases None b kind e = inr e

-- a word
abbrev pub is_word_shape : List ℕ → Bool
is_word_shape bytes = first_is is_letter bytes && every is_word_byte bytes

pub keyword_shape : (bytes : List ℕ) (kind : TokenKind) → keyword_kind bytes ≡ Some kind → is_word_shape bytes ≡ true
keyword_shape bytes kind e =
    elim (or_else_cases (kind_in definition_words bytes) (or_else (kind_in expression_words bytes) (kind_in number_types bytes)) kind e) [
      | inl a ↦ kind_passes is_word_shape definition_words bytes kind refl a
      | inr b ↦ elim (or_else_cases (kind_in expression_words bytes) (kind_in number_types bytes) kind b) [
        | inl a ↦ kind_passes is_word_shape expression_words bytes kind refl a
        | inr b ↦ kind_passes is_word_shape number_types bytes kind refl b
      ]
    ]

-- a byte with which punctuation or a word with a mark may begin
abbrev pub is_punctuation_byte : ℕ → Bool
is_punctuation_byte b = not (is_blank b) && (not (is_letter b) && not (is_digit b))

-- a mark, and after it a colon and bytes of such a word, or such bytes alone
abbrev pub is_marked_shape : List ℕ → Bool
is_marked_shape [] = false
is_marked_shape (a ∷ []) = false
is_marked_shape (a ∷ b ∷ bytes) = opens a && (is_punctuation_byte a && (not (eqb a 47) && cond (eqb b 58) (every is_marked_byte bytes) (every is_marked_byte (b ∷ bytes))))

pub marked_shape : (bytes : List ℕ) (kind : TokenKind) → kind_in marked_words bytes ≡ Some kind → is_marked_shape bytes ≡ true
marked_shape bytes kind e = kind_passes is_marked_shape marked_words bytes kind refl e

abbrev pub is_pair_shape : List ℕ → Bool
is_pair_shape [] = false
is_pair_shape (a ∷ []) = false
is_pair_shape (a ∷ b ∷ []) = not (opens a) && (is_punctuation_byte a && not (eqb a 47))
is_pair_shape (a ∷ b ∷ c ∷ bytes) = false

pub pair_shape : (bytes : List ℕ) (kind : TokenKind) → kind_in punctuation_of_two bytes ≡ Some kind → is_pair_shape bytes ≡ true
pair_shape bytes kind e = kind_passes is_pair_shape punctuation_of_two bytes kind refl e

abbrev pub is_single_shape : List ℕ → Bool
is_single_shape [] = false
is_single_shape (a ∷ []) = is_punctuation_byte a
is_single_shape (a ∷ b ∷ bytes) = false

pub single_shape : (bytes : List ℕ) (kind : TokenKind) → single_kind bytes ≡ Some kind → is_single_shape bytes ≡ true
single_shape bytes kind e =
    elim (or_else_cases (kind_in operators bytes) (kind_in delimiters bytes) kind e) [
      | inl a ↦ kind_passes is_single_shape operators bytes kind refl a
      | inr b ↦ kind_passes is_single_shape delimiters bytes kind refl b
    ]

pub not_true : (b : Bool) → not b ≡ true → b ≡ false
not_true true e = absurd cc
not_true false e = refl
