-- Texts of hexadecimal digits.
use Rattle.std.proofs.Common.{◌≡◌, ℕ, ◌/◌, ◌%◌, ◌*◌, List, [], length, Bool, true, false, ◌&&◌, nat_eq, Result, Ok, Err, refl, ap, arith}
use Rattle.std.proofs.lemmas.Bool.{and_parts}
use Rattle.std.proofs.lemmas.Bool.Decides.{nat_tests}
use Rattle.std.proofs.lemmas.List.Sums.{AllPass-from_list_all, list_all-from_AllPass}
use Rattle.std.specs.List.{list_all}
use Rattle.hex.specs.Hex.{decode_of, is_hex_digit}
use Rattle.hex.specs.declared.error.FromHexError.{FromHexError}
use Rattle.hex.proofs.HexLemmas.{decode_of-digits, decode_of-ok}
use Rattle.td_job.specs.declared.error.Key.{Key}
use Rattle.td_job.specs.declared.error.JobRule.TheVariants as rule
use Rattle.td_job.specs.declared.error.Path.TheVariants as path
use Rattle.td_job.specs.declared.error.JobError.TheVariants.{Fault}
use Rattle.td_job.specs.Fields.{bytes_or_none, IsFirst}
use Rattle.td_job.specs.Jobs.{digit_faults}

both : (a b : Bool) → a ≡ true → b ≡ true → (a && b) ≡ false → ⊥
both true true p q h = cc
both true false p q h = cc
both false b p q h = cc

decoded : (k : Key) (text : List ℕ) (r : Result (List ℕ) FromHexError) (bytes : List ℕ) → r ≡ Ok bytes → length text ≡ 2 * length bytes
    → (digit_faults k r ≡ []) × (length (bytes_or_none r) ≡ length text / 2)
decoded k text (Ok found) bytes e twice = let same : found ≡ bytes = cc in let long = ap (length {A = ℕ}) same in (refl, omega (arith, twice, long))
decoded k text (Err wrong) bytes e twice = absurd (cc)

-- an even number of digits is no fault, and spells half as many bytes
pub digits_count : (k : Key) (text : List ℕ) → (nat_eq (length text % 2) 0 && list_all is_hex_digit text) ≡ true
    → (digit_faults k (decode_of text) ≡ []) × (length (bytes_or_none (decode_of text)) ≡ length text / 2)
digits_count k text h =
    let parts = and_parts (nat_eq (length text % 2) 0) (list_all is_hex_digit text) h in
    let even : length text % 2 ≡ 0 = grind (arith, nat_tests, parts.0) in
    let found = decode_of-digits text even (AllPass-from_list_all is_hex_digit text parts.1) in
    decoded k text (decode_of text) found.0 found.1 (decode_of-ok text found.0 found.1).2

undecoded : (k : Key) (text : List ℕ) → (nat_eq (length text % 2) 0 && list_all is_hex_digit text) ≡ false → (r : Result (List ℕ) FromHexError) → decode_of text ≡ r
    → IsFirst (digit_faults k r) (Fault rule.Digits (path.Whole k))
undecoded k text h (Ok bytes) e =
    let is = decode_of-ok text bytes e in
    let even : nat_eq (length text % 2) 0 ≡ true = grind (arith, nat_tests, is.0) in
    absurd (both (nat_eq (length text % 2) 0) (list_all is_hex_digit text) even (list_all-from_AllPass is_hex_digit text is.1) h)
undecoded k text h (Err wrong) e = record { others = []; is = refl }

-- any other text is a fault
pub digits_wrong : (k : Key) (text : List ℕ) → (nat_eq (length text % 2) 0 && list_all is_hex_digit text) ≡ false → IsFirst (digit_faults k (decode_of text)) (Fault rule.Digits (path.Whole k))
digits_wrong k text h = undecoded k text h (decode_of text) refl
