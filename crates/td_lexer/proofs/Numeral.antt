-- The longest number at the beginning.
use Rattle.std.proofs.Common.{◌≡◌, ℕ, suc, ◌+◌, ◌≤◌, Bool, true, false, cond, eqb, List, [], ◌∷◌, ◌++◌, length, refl, ◌∙◌, arith}
use Rattle.std.proofs.lemmas.Bool.{eqb-false, ne_eqb}
use Rattle.std.proofs.Math.Bool.{and-false}
use Rattle.td_ast.specs.declared.token.Base.{Base}
use Rattle.td_ast.specs.declared.token.Base.TheVariants.{Decimal, Hexadecimal}
use Rattle.td_lexer.specs.Bytes.{is_digit, is_word_byte, is_hexadecimal, is_hexadecimal_mark, every, first_is, run}
use Rattle.td_lexer.specs.Scanner.{hexadecimal_digits, number_ends, number_lexeme}
use Rattle.td_lexer.specs.Splits.{IsNumeral}
use Rattle.td_lexer.proofs.Within.{and_left, and_right}
use Rattle.td_lexer.proofs.Runs.{run_least, run_all}
use Rattle.td_lexer.proofs.Sorts.{digit_no_mark, digit_in_word, mark_in_word, hexadecimal_in_word, first_narrower}

-- how many bytes of a number stand at the beginning
abbrev pub reach : List ℕ → ℕ
reach bytes = cond (eqb (hexadecimal_digits bytes) 0) (run is_digit bytes) (2 + hexadecimal_digits bytes)

-- no `0x` where the second byte is no mark
no_mark : (a : ℕ) (bytes : List ℕ) → first_is is_hexadecimal_mark bytes ≡ false → hexadecimal_digits (a ∷ bytes) ≡ 0
no_mark a bytes e = rw (e, and-false (eqb a 48)) refl

-- after a mark all hexadecimal digits belong to the number
behind_mark : (mark : ℕ) (bytes : List ℕ) → is_hexadecimal_mark mark ≡ true → hexadecimal_digits (48 ∷ mark ∷ bytes) ≡ run is_hexadecimal bytes
behind_mark mark bytes e = rw e refl

-- a number at the beginning is no longer
pub numeral_within : (base : Base) (bytes rest : List ℕ) → IsNumeral base bytes → length bytes ≤ reach (bytes ++ rest)
numeral_within Decimal [] rest h = omega arith
numeral_within Decimal (a ∷ bytes) rest h = by_test (eqb (hexadecimal_digits (a ∷ (bytes ++ rest))) 0) refl
  where
    short : (bs : List ℕ) → every is_digit bs ≡ true → eqb (hexadecimal_digits (a ∷ (bs ++ rest))) 0 ≡ false → length bs ≤ 0
    short [] e c = omega arith
    short (x ∷ bs) e c = absurd (eqb-false (hexadecimal_digits (a ∷ x ∷ (bs ++ rest))) 0 c (no_mark a (x ∷ (bs ++ rest)) (digit_no_mark x (and_left (is_digit x) (every is_digit bs) e))))

    by_test : (c : Bool) → eqb (hexadecimal_digits (a ∷ (bytes ++ rest))) 0 ≡ c → suc (length bytes) ≤ cond c (run is_digit (a ∷ (bytes ++ rest))) (2 + hexadecimal_digits (a ∷ (bytes ++ rest)))
    by_test true e = run_least is_digit (a ∷ bytes) rest h.1
    by_test false e = let le = short bytes (and_right (is_digit a) (every is_digit bytes) h.1) e in omega arith
numeral_within Hexadecimal bytes rest (mark, digits, same, is_mark, some, all) = rw same by_run
  where
    by_run : suc (suc (length digits)) ≤ reach (48 ∷ mark ∷ (digits ++ rest))
    by_run =
        let le = run_least is_hexadecimal digits rest all in
        let n = behind_mark mark (digits ++ rest) is_mark in
        let ne : eqb (hexadecimal_digits (48 ∷ mark ∷ (digits ++ rest))) 0 ≡ false = ne_eqb (hexadecimal_digits (48 ∷ mark ∷ (digits ++ rest))) 0 (λ e. omega arith) in
        rw ne (omega arith)

-- a number after which no word goes on is all that is at the beginning
pub numeral_reach : (base : Base) (bytes rest : List ℕ) → IsNumeral base bytes → first_is is_word_byte rest ≡ false → number_lexeme (bytes ++ rest) ≡ number_ends base (length bytes) (bytes ++ rest)
unfolding number_lexeme
numeral_reach Decimal [] rest h ends = absurd (omega (arith, h.0))
numeral_reach Decimal (a ∷ bytes) rest h ends =
    let none : hexadecimal_digits (a ∷ (bytes ++ rest)) ≡ 0 = no_mark a (bytes ++ rest) (unmarked bytes (and_right (is_digit a) (every is_digit bytes) h.1)) in
    let all : run is_digit (a ∷ (bytes ++ rest)) ≡ suc (length bytes) = run_all is_digit (a ∷ bytes) rest h.1 (first_narrower is_digit is_word_byte digit_in_word rest ends) in
    rw (none, all) refl
  where
    unmarked : (bs : List ℕ) → every is_digit bs ≡ true → first_is is_hexadecimal_mark (bs ++ rest) ≡ false
    unmarked [] e = first_narrower is_hexadecimal_mark is_word_byte mark_in_word rest ends
    unmarked (x ∷ bs) e = digit_no_mark x (and_left (is_digit x) (every is_digit bs) e)
numeral_reach Hexadecimal bytes rest (mark, digits, same, is_mark, some, all) ends = rw same by_run
  where
    by_run : number_lexeme (48 ∷ mark ∷ (digits ++ rest)) ≡ number_ends Hexadecimal (suc (suc (length digits))) (48 ∷ mark ∷ (digits ++ rest))
    by_run =
        let n : hexadecimal_digits (48 ∷ mark ∷ (digits ++ rest)) ≡ length digits = behind_mark mark (digits ++ rest) is_mark ∙ run_all is_hexadecimal digits rest all (first_narrower is_hexadecimal is_word_byte hexadecimal_in_word rest ends) in
        let ne : eqb (length digits) 0 ≡ false = ne_eqb (length digits) 0 (λ e. omega arith) in
        let two : 2 + length digits ≡ suc (suc (length digits)) = omega arith in
        rw (n, ne, two) refl
