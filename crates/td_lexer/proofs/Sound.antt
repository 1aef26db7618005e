-- What stands at the beginning, in the language's words.
use Rattle.std.proofs.Common.{◌≡◌, ℕ, zero, suc, ◌+◌, ◌≤◌, ◌<◌, ◌^◌, Bool, true, false, cond, eqb, ltb, List, [], ◌∷◌, ◌++◌, length, take, drop, Option, Some, None, refl, sym, ap, ◌∙◌, arith, inl, inr}
use Rattle.std.specs.Prelude.{◌&&◌, ◌⊎◌, codes}
use Rattle.std.proofs.lemmas.Bool.{eqb-true, eq-eqb, ltb-true, ltb-false}
use Rattle.std.proofs.lemmas.List.{take-append-drop, length-take-le, length-append}
use Rattle.std.proofs.Math.Bool.{and-false}
use Rattle.td_ast.specs.declared.token.Base.{Base}
use Rattle.td_ast.specs.declared.token.Base.TheVariants.{Decimal, Hexadecimal}
use Rattle.td_ast.specs.declared.token.TokenKind.{TokenKind}
use Rattle.td_lexer.specs.Bytes.{is_blank, is_letter, is_digit, is_word_byte, is_marked_byte, is_hexadecimal, is_hexadecimal_mark, is_in_line, opens, every, first_is, run}
use Rattle.td_lexer.specs.Spellings.{kind_in, keyword_kind, marked_words, punctuation_of_two, single_kind, or_else}
use Rattle.td_lexer.specs.Numerals.{numeral_value}
use Rattle.td_lexer.specs.declared.lexeme.Lexeme.{Lexeme}
use Rattle.td_lexer.specs.declared.lexeme.Lexeme.TheVariants as lexemes
use Rattle.td_lexer.specs.Scanner.{lexeme, word_lexeme, number_lexeme, punctuation_lexeme, name_or, number_ends, hexadecimal_digits, close_of, closed, marked_length, marked_kind, found_or}
use Rattle.td_lexer.specs.Splits.{IsNumeral, Begins, IsPassed, IsOpenComment, IsBigNumber, GoesOn, is_comment_byte}
use Rattle.td_lexer.specs.Splits.Begins.{keyword_begins, name_begins, number_begins, marked_begins, punctuation_begins}
use Rattle.td_lexer.specs.Splits.IsPassed.{blank_passes, line_passes, block_passes}
use Rattle.td_lexer.proofs.Within.{and_left, and_right, run_within, run_some, marked_within, hexadecimal_within, no_pair}
use Rattle.td_lexer.proofs.Runs.{run_every, run_stops}
use Rattle.td_lexer.proofs.Closing.{Closes, close_found}
use Rattle.td_lexer.proofs.Numeral.{numeral_within}

-- nothing but a word, a word with a mark or punctuation may begin here
abbrev pub Plain : List ℕ → Type 0
Plain bytes =
    (0 < length bytes) × (first_is is_blank bytes ≡ false) × (first_is is_digit bytes ≡ false)
    × ((behind : List ℕ) → bytes ≡ codes "//" ++ behind → ⊥) × ((behind : List ℕ) → bytes ≡ codes "/*" ++ behind → ⊥)

abbrev pub Sound : List ℕ → Lexeme → Type 0
Sound bytes (lexemes.Trivia n) = (front rest : List ℕ) × (bytes ≡ front ++ rest) × (length front ≡ n) × IsPassed front rest
Sound bytes (lexemes.Token kind n) = (front rest : List ℕ) × (bytes ≡ front ++ rest) × (length front ≡ n) × Begins kind front rest
Sound bytes (lexemes.BadByte n) = ((n ≡ 0) × Plain bytes) ⊎ GoesOn bytes n
Sound bytes lexemes.OpenComment = IsOpenComment bytes
Sound bytes lexemes.BigNumber = IsBigNumber bytes

cond_case : (P : Lexeme → Type 0) (b : Bool) (p q : Lexeme) → (b ≡ true → P p) → (b ≡ false → P q) → P (cond b p q)
cond_case P true p q f g = f refl
cond_case P false p q f g = g refl

found_case : (P : Lexeme → Type 0) (kind : Option TokenKind) (n : ℕ) (other : Lexeme) → ((k : TokenKind) → kind ≡ Some k → P (lexemes.Token k n)) → (kind ≡ None → P other) → P (found_or kind n other)
found_case P (Some k) n other f g = f k refl
found_case P None n other f g = g refl

first_taken : (sort : ℕ → Bool) (n a : ℕ) (bytes : List ℕ) → 0 < n → sort a ≡ true → first_is sort (take n (a ∷ bytes)) ≡ true
first_taken sort zero a bytes pos e = absurd (omega arith)
first_taken sort (suc n) a bytes pos e = e

-- ---- words

word_sound : (a : ℕ) (bytes : List ℕ) → is_letter a ≡ true → Sound (a ∷ bytes) (word_lexeme (a ∷ bytes))
unfolding word_lexeme
word_sound a bytes e =
    let n = run is_word_byte (a ∷ bytes) in
    let w = take n (a ∷ bytes) in (
      w,
      drop n (a ∷ bytes),
      sym (take-append-drop n (a ∷ bytes)),
      length-take-le n (a ∷ bytes) (run_within is_word_byte (a ∷ bytes)),
      by_kind (keyword_kind w) refl (first_taken is_letter n a bytes (run_some is_word_byte a bytes (rw e refl)) e) (run_every is_word_byte (a ∷ bytes)),
    )
  where
    by_kind : {w rest : List ℕ} (o : Option TokenKind) → keyword_kind w ≡ o → first_is is_letter w ≡ true → every is_word_byte w ≡ true → Begins (name_or w o) w rest
    by_kind (Some k) e f all = keyword_begins e
    by_kind None e f all = name_begins (f, all, e)

-- ---- numbers

module _ (base : Base) (n : ℕ) (bytes : List ℕ) (le : n ≤ length bytes) (numeral : IsNumeral base (take n bytes)) (longest : (other : Base) (others behind : List ℕ) → others ++ behind ≡ bytes → IsNumeral other others → length others ≤ n) where
  ends_sound : Sound bytes (number_ends base n bytes)
  ends_sound =
      let same = sym (take-append-drop n bytes) in
      let len = length-take-le n bytes le in
      cond_case (Sound bytes) (first_is is_word_byte (drop n bytes)) (lexemes.BadByte n) _
      (λ on. inr (base, take n bytes, drop n bytes, same, len, numeral, on, λ other others behind e h. rw len (longest other others behind (e ∙ sym same) h)))
      (λ ends. cond_case (Sound bytes) (ltb (numeral_value base (take n bytes)) (2 ^ 64)) _ lexemes.BigNumber
      (λ small. (take n bytes, drop n bytes, same, len, number_begins base numeral (ltb-true (numeral_value base (take n bytes)) (2 ^ 64) small) ends))
      (λ big. (base, take n bytes, drop n bytes, same, numeral, ltb-false (numeral_value base (take n bytes)) (2 ^ 64) big, ends)))

-- `0x` and hexadecimal digits
hexadecimal_numeral : (a : ℕ) (bytes : List ℕ) → 0 < hexadecimal_digits (a ∷ bytes) → IsNumeral Hexadecimal (take (2 + hexadecimal_digits (a ∷ bytes)) (a ∷ bytes))
hexadecimal_numeral a [] pos = absurd (omega (arith, ap (λ (c : Bool). cond c (run is_hexadecimal []) 0) (and-false (eqb a 48))))
hexadecimal_numeral a (x ∷ bytes) pos = by_test (eqb a 48 && is_hexadecimal_mark x) refl pos
  where
    by_test : (c : Bool) → (eqb a 48 && is_hexadecimal_mark x) ≡ c → 0 < cond c (run is_hexadecimal bytes) 0 → IsNumeral Hexadecimal (take (2 + cond c (run is_hexadecimal bytes) 0) (a ∷ x ∷ bytes))
    by_test true e pos =
        let n = run is_hexadecimal bytes in
        let two : 2 + n ≡ suc (suc n) = omega arith in
        let zero_first = eqb-true a 48 (and_left (eqb a 48) (is_hexadecimal_mark x) e) in
        let len = length-take-le n bytes (run_within is_hexadecimal bytes) in
        (x, take n bytes, rw two (ap (λ (b : ℕ). b ∷ x ∷ take n bytes) zero_first), and_right (eqb a 48) (is_hexadecimal_mark x) e, rw len pos, run_every is_hexadecimal bytes)
    by_test false e pos = absurd (omega arith)

-- the number at the beginning of digits, which is the longest one
pub number_longest : (a : ℕ) (bytes : List ℕ) → is_digit a ≡ true → (base : Base) × (n : ℕ) × (number_lexeme (a ∷ bytes) ≡ number_ends base n (a ∷ bytes)) × (n ≤ suc (length bytes)) × IsNumeral base (take n (a ∷ bytes)) × ((other : Base) (others behind : List ℕ) → others ++ behind ≡ a ∷ bytes → IsNumeral other others → length others ≤ n)
unfolding number_lexeme
number_longest a bytes digit = by_test (eqb (hexadecimal_digits (a ∷ bytes)) 0) refl
  where
    positive : (n : ℕ) → eqb n 0 ≡ false → 0 < n
    positive zero e = absurd cc
    positive (suc n) e = omega arith

    by_test : (c : Bool) → eqb (hexadecimal_digits (a ∷ bytes)) 0 ≡ c → (base : Base) × (n : ℕ) × (cond c (number_ends Decimal (run is_digit (a ∷ bytes)) (a ∷ bytes)) (number_ends Hexadecimal (2 + hexadecimal_digits (a ∷ bytes)) (a ∷ bytes)) ≡ number_ends base n (a ∷ bytes)) × (n ≤ suc (length bytes)) × IsNumeral base (take n (a ∷ bytes)) × ((other : Base) (others behind : List ℕ) → others ++ behind ≡ a ∷ bytes → IsNumeral other others → length others ≤ n)
    by_test true e =
        let n = run is_digit (a ∷ bytes) in
        let le = run_within is_digit (a ∷ bytes) in
        let some = run_some is_digit a bytes digit in (
          Decimal,
          n,
          refl,
          le,
          (rw (length-take-le n (a ∷ bytes) le) some, run_every is_digit (a ∷ bytes)),
          λ other others behind same h. rw (same, e) at (numeral_within other others behind h),
        )
    by_test false e =
        let n = hexadecimal_digits (a ∷ bytes) in
        let pos : 0 < n = positive n e in (
          Hexadecimal,
          2 + n,
          refl,
          hexadecimal_within (a ∷ bytes) pos,
          hexadecimal_numeral a bytes pos,
          λ other others behind same h. rw (same, e) at (numeral_within other others behind h),
        )

number_sound : (a : ℕ) (bytes : List ℕ) → is_digit a ≡ true → Sound (a ∷ bytes) (number_lexeme (a ∷ bytes))
number_sound a bytes digit =
    let longest = number_longest a bytes digit in
    rw longest.2 (ends_sound longest.0 longest.1 (a ∷ bytes) longest.3 longest.4 longest.5)

-- ---- comments

line_sound : (a : ℕ) (bytes : List ℕ) → (eqb a 47 && first_is (λ b. eqb b 47) bytes) ≡ true → Sound (a ∷ bytes) (lexemes.Trivia (2 + run is_in_line (drop 1 bytes)))
line_sound a [] e = absurd (cc (e, and-false (eqb a 47)))
line_sound a (b ∷ bytes) e =
    let ea = eqb-true a 47 (and_left (eqb a 47) (eqb b 47) e) in
    let eb = eqb-true b 47 (and_right (eqb a 47) (eqb b 47) e) in
    let n = run is_in_line bytes in
    let len = length-take-le n bytes (run_within is_in_line bytes) in
    (codes "//" ++ take n bytes, drop n bytes, rw (ea, eb, take-append-drop n bytes) refl, omega (arith, len), line_passes (run_every is_in_line bytes) (run_stops is_in_line bytes))

block_sound : (a : ℕ) (bytes : List ℕ) → (eqb a 47 && first_is (λ b. eqb b 42) bytes) ≡ true → Sound (a ∷ bytes) (closed (close_of (drop 1 bytes)))
block_sound a [] e = absurd (cc (e, and-false (eqb a 47)))
block_sound a (b ∷ bytes) e = by_close (close_of bytes) (close_found bytes)
  where
    opened : a ∷ b ∷ bytes ≡ 47 ∷ 42 ∷ bytes
    opened = rw (eqb-true a 47 (and_left (eqb a 47) (eqb b 42) e), eqb-true b 42 (and_right (eqb a 47) (eqb b 42) e)) refl

    by_close : (o : Option ℕ) → Closes bytes o → Sound (a ∷ b ∷ bytes) (closed o)
    by_close None none = (bytes, opened, none)
    by_close (Some n) (body, rest, same, count, first) =
        (codes "/*" ++ body ++ codes "*/", rest, opened ∙ ap (λ (l : List ℕ). 47 ∷ 42 ∷ l) same, lengths body count, block_passes body first)
      where
        lengths : (body : List ℕ) → n ≡ length body + 2 → length (codes "/*" ++ body ++ codes "*/") ≡ n + 2
        lengths body count = simp length-append (omega arith)

-- ---- punctuation

-- after a word with a mark no byte of it follows
marked_stops : (bytes : List ℕ) → first_is is_marked_byte (drop (marked_length bytes) bytes) ≡ false
marked_stops [] = refl
marked_stops (a ∷ []) = refl
marked_stops (a ∷ b ∷ bytes) = by_test (eqb b 58)
  where
    by_test : (c : Bool) → first_is is_marked_byte (drop (cond c (2 + run is_marked_byte bytes) (1 + run is_marked_byte (b ∷ bytes))) (a ∷ b ∷ bytes)) ≡ false
    by_test true = let two : 2 + run is_marked_byte bytes ≡ suc (suc (run is_marked_byte bytes)) = omega arith in rw two (run_stops is_marked_byte bytes)
    by_test false = let one : 1 + run is_marked_byte (b ∷ bytes) ≡ suc (run is_marked_byte (b ∷ bytes)) = omega arith in rw one (run_stops is_marked_byte (b ∷ bytes))

-- a word with a mark is in its table
pub marked_is : (bytes : List ℕ) (kind : TokenKind) → marked_kind bytes ≡ Some kind → kind_in marked_words (take (marked_length bytes) bytes) ≡ Some kind
marked_is bytes kind e = by_test (first_is opens bytes) e
  where
    by_test : (c : Bool) → cond c (kind_in marked_words (take (marked_length bytes) bytes)) None ≡ Some kind → kind_in marked_words (take (marked_length bytes) bytes) ≡ Some kind
    by_test true e = e
    by_test false e = absurd cc

pub or_else_left : (o other : Option TokenKind) (kind : TokenKind) → o ≡ Some kind → or_else o other ≡ Some kind
or_else_left o other kind e = rw e refl

pub or_else_right : (o other : Option TokenKind) → o ≡ None → or_else o other ≡ other
or_else_right o other e = rw e refl

sign_sound : (a : ℕ) (bytes : List ℕ) → Plain (a ∷ bytes) → (eqb a 47 && first_is (λ b. eqb b 47) bytes) ≡ false → (eqb a 47 && first_is (λ b. eqb b 42) bytes) ≡ false → Sound (a ∷ bytes) (punctuation_lexeme (a ∷ bytes))
unfolding punctuation_lexeme
sign_sound a bytes plain no_line no_block =
    let all = a ∷ bytes in
    let m = marked_within a bytes in
    found_case (Sound all) (marked_kind all) (marked_length all) _
    (λ kind e. (take (marked_length all) all, drop (marked_length all) all, sym (take-append-drop (marked_length all) all), length-take-le (marked_length all) all m.1, marked_begins (marked_is all kind e) (marked_stops all)))
    (λ e. found_case (Sound all) (kind_in punctuation_of_two (take 2 all)) 2 _
    (λ kind e. pair bytes kind e)
    (λ e. found_case (Sound all) (single_kind (take 1 all)) 1 (lexemes.BadByte 0)
    (λ kind e. (a ∷ [], bytes, refl, refl, punctuation_begins (or_else_right (kind_in punctuation_of_two (a ∷ [])) (single_kind (a ∷ [])) (no_pair a) ∙ e) (λ slash. divides bytes slash no_line no_block)))
    (λ e. inl (refl, plain))))
  where
    pair : (bs : List ℕ) (kind : TokenKind) → kind_in punctuation_of_two (take 2 (a ∷ bs)) ≡ Some kind → Sound (a ∷ bs) (lexemes.Token kind 2)
    pair [] kind e = absurd (cc (e, no_pair a))
    pair (b ∷ bs) kind e = (a ∷ b ∷ [], bs, refl, refl, punctuation_begins (or_else_left (kind_in punctuation_of_two (a ∷ b ∷ [])) (single_kind (a ∷ b ∷ [])) kind e) (λ slash. absurd (omega (arith, ap (λ (l : List ℕ). length l) slash))))

    divides : (bs : List ℕ) → a ∷ [] ≡ codes "/" → (eqb a 47 && first_is (λ b. eqb b 47) bs) ≡ false → (eqb a 47 && first_is (λ b. eqb b 42) bs) ≡ false → first_is is_comment_byte bs ≡ false
    divides [] slash f g = refl
    divides (b ∷ bs) slash f g = let ea : a ≡ 47 = cc in rw (rw ea at f, rw ea at g) refl

-- ---- all

no_start : (x a y : ℕ) (bytes behind : List ℕ) → (eqb a x && first_is (λ b. eqb b y) bytes) ≡ false → a ∷ bytes ≡ x ∷ y ∷ behind → ⊥
no_start x a y [] behind f e = cc
no_start x a y (b ∷ bytes) behind f e =
    let ea : a ≡ x = cc in
    let eb : b ≡ y = cc in
    both (eqb a x) (eqb b y) (eq-eqb a x ea) (eq-eqb b y eb) f
  where
    both : (p q : Bool) → p ≡ true → q ≡ true → (p && q) ≡ false → ⊥
    both true true ep eq f = cc
    both true false ep eq f = cc
    both false q ep eq f = cc

pub lexeme_sound : (bytes : List ℕ) → 0 < length bytes → Sound bytes (lexeme bytes)
unfolding lexeme
lexeme_sound [] pos = absurd (omega arith)
lexeme_sound (a ∷ bytes) pos =
    let P = Sound (a ∷ bytes) in
    cond_case P (is_blank a) (lexemes.Trivia 1) _ (λ blank. (a ∷ [], bytes, refl, refl, blank_passes blank)) (λ no_blank.
    cond_case P (is_letter a) (word_lexeme (a ∷ bytes)) _ (λ letter. word_sound a bytes letter) (λ no_letter.
    cond_case P (is_digit a) (number_lexeme (a ∷ bytes)) _ (λ digit. number_sound a bytes digit) (λ no_digit.
    cond_case P (eqb a 47 && first_is (λ b. eqb b 47) bytes) (lexemes.Trivia (2 + run is_in_line (drop 1 bytes))) _ (λ line. line_sound a bytes line) (λ no_line.
    cond_case P (eqb a 47 && first_is (λ b. eqb b 42) bytes) (closed (close_of (drop 1 bytes))) (punctuation_lexeme (a ∷ bytes)) (λ block. block_sound a bytes block) (λ no_block.
    sign_sound a bytes (pos, no_blank, no_digit, λ behind e. no_start 47 a 47 bytes behind no_line e, λ behind e. no_start 47 a 42 bytes behind no_block e) no_line no_block)))))
