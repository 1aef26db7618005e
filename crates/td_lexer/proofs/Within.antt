-- A lexeme is within the bytes. Cited by other crates.
use Rattle.std.proofs.Common.{◌≡◌, ℕ, suc, ◌+◌, ◌≤◌, ◌<◌, Bool, true, false, cond, eqb, ltb, ◌^◌, List, [], ◌∷◌, length, take, drop, Option, Some, None, refl, arith, length-drop, length-take}
use Rattle.std.specs.Prelude.{IfSome, ◌&&◌}
use Rattle.std.proofs.lemmas.List.Sums.{take_while-cons}
use Rattle.std.proofs.Math.Bool.{and-false}
use Rattle.td_num.specs.Lists.{one_more}
use Rattle.td_ast.specs.declared.token.TokenKind.{TokenKind}
use Rattle.td_ast.specs.declared.token.Base.{Base}
use Rattle.td_ast.specs.declared.token.Base.TheVariants.{Decimal, Hexadecimal}
use Rattle.td_lexer.specs.Bytes.{is_blank, is_letter, is_digit, is_word_byte, is_marked_byte, is_hexadecimal, is_hexadecimal_mark, is_in_line, first_is, run}
use Rattle.td_lexer.specs.Spellings.{kind_in, punctuation_of_two, single_kind}
use Rattle.td_lexer.specs.declared.lexeme.Lexeme.{Lexeme}
use Rattle.td_lexer.specs.declared.lexeme.Lexeme.TheVariants as lexemes
use Rattle.td_lexer.specs.Numerals.{numeral_value}
use Rattle.td_lexer.specs.Scanner.{lexeme, close_of, closes, closed, word_lexeme, number_lexeme, punctuation_lexeme, number_ends, hexadecimal_digits, marked_length, marked_kind, found_or}
use Rattle.td_lexer.specs.ScanSteps.{IsWithin}

pub and_right : (b c : Bool) → (b && c) ≡ true → c ≡ true
and_right true c e = e
and_right false c e = absurd cc

pub and_left : (b c : Bool) → (b && c) ≡ true → b ≡ true
and_left true c e = refl
and_left false c e = absurd cc

cond_within : (n : ℕ) (b : Bool) (p q : Lexeme) → (b ≡ true → IsWithin n p) → (b ≡ false → IsWithin n q) → IsWithin n (cond b p q)
cond_within n true p q f g = f refl
cond_within n false p q f g = g refl

pub run_within : (sort : ℕ → Bool) (bytes : List ℕ) → run sort bytes ≤ length bytes
run_within sort bytes = simp length-take (omega arith)

pub run_some : (sort : ℕ → Bool) (b : ℕ) (bytes : List ℕ) → sort b ≡ true → 0 < run sort (b ∷ bytes)
run_some sort b bytes e = rw (take_while-cons, e) (omega arith)

ends_within : (n : ℕ) (base : Base) (len : ℕ) (bytes : List ℕ) → 0 < len → len ≤ n → IsWithin n (number_ends base len bytes)
ends_within n base len bytes pos le = cond_within n (first_is is_word_byte (drop len bytes)) (lexemes.BadByte len) _ (λ e. le) (λ e. cond_within n (ltb (numeral_value base (take len bytes)) (2 ^ 64)) _ lexemes.BigNumber (λ e. (pos, le)) (λ e. tt))

-- where a first byte is of a sort there is one
pub first_there : (c : Bool) (sort : ℕ → Bool) (bytes : List ℕ) → (c && first_is sort bytes) ≡ true → 0 < length bytes
first_there c sort [] e = absurd (cc (e, and-false c))
first_there c sort (b ∷ bytes) e = omega arith

-- a comment's end has two bytes
pub closes_two : (bytes : List ℕ) → closes bytes ≡ true → 2 ≤ length bytes
closes_two [] e = absurd cc
closes_two (a ∷ bytes) e = let some = first_there (eqb a 42) (λ b. eqb b 47) bytes e in omega arith

close_within : (bytes : List ℕ) → IfSome (close_of bytes) (λ n. n ≤ length bytes)
close_within [] = tt
close_within (a ∷ bytes) = by_test (closes (a ∷ bytes)) refl (close_of bytes) (close_within bytes)
  where
    by_test : (b : Bool) → closes (a ∷ bytes) ≡ b → (o : Option ℕ) → IfSome o (λ n. n ≤ length bytes) → IfSome (cond b (Some 2) (one_more o)) (λ n. n ≤ suc (length bytes))
    by_test true e o h = closes_two (a ∷ bytes) e
    by_test false e None h = tt
    by_test false e (Some n) h = omega arith

closed_within : (bytes : List ℕ) (o : Option ℕ) → 0 < length bytes → IfSome o (λ n. n ≤ length (drop 1 bytes)) → IsWithin (suc (length bytes)) (closed o)
closed_within bytes None long h = tt
closed_within bytes (Some n) long h = (omega arith, omega (arith, length-drop 1 bytes))

line_within : (bytes : List ℕ) → 0 < length bytes → 2 + run is_in_line (drop 1 bytes) ≤ suc (length bytes)
line_within bytes long = let le = run_within is_in_line (drop 1 bytes) in omega (arith, length-drop 1 bytes)

pub hexadecimal_within : (bytes : List ℕ) → 0 < hexadecimal_digits bytes → 2 + hexadecimal_digits bytes ≤ length bytes
hexadecimal_within [] pos = absurd (omega arith)
hexadecimal_within (a ∷ bytes) pos = by_test (eqb a 48 && first_is is_hexadecimal_mark bytes) (λ e. first_there (eqb a 48) is_hexadecimal_mark bytes e) pos
  where
    by_test : (b : Bool) → (b ≡ true → 0 < length bytes) → 0 < cond b (run is_hexadecimal (drop 1 bytes)) 0 → 2 + cond b (run is_hexadecimal (drop 1 bytes)) 0 ≤ suc (length bytes)
    by_test true there pos = let long : 0 < length bytes = there refl in let le = run_within is_hexadecimal (drop 1 bytes) in omega (arith, length-drop 1 bytes)
    by_test false there pos = absurd (omega arith)

number_within : (a : ℕ) (bytes : List ℕ) → is_digit a ≡ true → IsWithin (suc (length bytes)) (number_lexeme (a ∷ bytes))
unfolding number_lexeme
number_within a bytes digit =
    let n = hexadecimal_digits (a ∷ bytes) in
    cond_within (suc (length bytes)) (eqb n 0) _ _
    (λ e. ends_within (suc (length bytes)) Decimal (run is_digit (a ∷ bytes)) (a ∷ bytes) (run_some is_digit a bytes digit) (run_within is_digit (a ∷ bytes)))
    (λ e. let pos : 0 < n = grind arith in ends_within (suc (length bytes)) Hexadecimal (2 + n) (a ∷ bytes) (omega arith) (hexadecimal_within (a ∷ bytes) pos))

pub marked_within : (a : ℕ) (bytes : List ℕ) → (0 < marked_length (a ∷ bytes)) × (marked_length (a ∷ bytes) ≤ suc (length bytes))
marked_within a [] = (omega arith, omega arith)
marked_within a (b ∷ bytes) = by_test (eqb b 58)
  where
    by_test : (c : Bool) → (0 < cond c (2 + run is_marked_byte bytes) (1 + run is_marked_byte (b ∷ bytes))) × (cond c (2 + run is_marked_byte bytes) (1 + run is_marked_byte (b ∷ bytes)) ≤ suc (suc (length bytes)))
    by_test true = let le = run_within is_marked_byte bytes in (omega arith, omega arith)
    by_test false = let le : run is_marked_byte (b ∷ bytes) ≤ suc (length bytes) = run_within is_marked_byte (b ∷ bytes) in (omega arith, omega arith)

found_within : (len : ℕ) (kind : Option TokenKind) (n : ℕ) (other : Lexeme) → 0 < n → ((k : TokenKind) → kind ≡ Some k → n ≤ len) → IsWithin len other → IsWithin len (found_or kind n other)
found_within len (Some k) n other pos le h = (pos, le k refl)
found_within len None n other pos le h = h

pub no_pair : (a : ℕ) → kind_in punctuation_of_two (a ∷ []) ≡ None
no_pair a = simp and-false

sign_within : (a : ℕ) (bytes : List ℕ) → IsWithin (suc (length bytes)) (punctuation_lexeme (a ∷ bytes))
unfolding punctuation_lexeme
sign_within a bytes =
    let m = marked_within a bytes in
    found_within (suc (length bytes)) (marked_kind (a ∷ bytes)) (marked_length (a ∷ bytes)) _ m.0 (λ k e. m.1)
    (found_within (suc (length bytes)) (kind_in punctuation_of_two (take 2 (a ∷ bytes))) 2 _ (omega arith) (two bytes)
    (found_within (suc (length bytes)) (single_kind (take 1 (a ∷ bytes))) 1 (lexemes.BadByte 0) (omega arith) (λ k e. omega arith) (omega arith)))
  where
    two : (bs : List ℕ) (k : TokenKind) → kind_in punctuation_of_two (take 2 (a ∷ bs)) ≡ Some k → 2 ≤ suc (length bs)
    two [] k e = absurd (cc (e, no_pair a))
    two (b ∷ bs) k e = omega arith

pub lexeme_within : (bytes : List ℕ) → 0 < length bytes → IsWithin (length bytes) (lexeme bytes)
unfolding lexeme word_lexeme
lexeme_within [] pos = absurd (omega arith)
lexeme_within (a ∷ bytes) pos =
    let n = suc (length bytes) in
    cond_within n (is_blank a) (lexemes.Trivia 1) _ (λ e. (omega arith, omega arith)) (λ e.
    cond_within n (is_letter a) (word_lexeme (a ∷ bytes)) _ (λ e. (run_some is_word_byte a bytes (rw e refl), run_within is_word_byte (a ∷ bytes))) (λ e.
    cond_within n (is_digit a) (number_lexeme (a ∷ bytes)) _ (λ e. number_within a bytes e) (λ e.
    cond_within n (eqb a 47 && first_is (λ b. eqb b 47) bytes) (lexemes.Trivia (2 + run is_in_line (drop 1 bytes))) _ (λ e'. (omega arith, line_within bytes (first_there (eqb a 47) (λ b. eqb b 47) bytes e'))) (λ e'.
    cond_within n (eqb a 47 && first_is (λ b. eqb b 42) bytes) (closed (close_of (drop 1 bytes))) (punctuation_lexeme (a ∷ bytes)) (λ e''. closed_within bytes (close_of (drop 1 bytes)) (first_there (eqb a 47) (λ b. eqb b 42) bytes e'') (close_within (drop 1 bytes))) (λ e''.
    sign_within a bytes)))))
