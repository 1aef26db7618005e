-- A number below 16^n is determined by its n hexadecimal digits. Cited by other crates.
use Rattle.std.proofs.Common.{◌≡◌, ℕ, zero, suc, ◌+◌, ◌*◌, ◌/◌, ◌%◌, ◌^◌, ◌<◌, Bool, true, refl, sym, ap, ◌∙◌, arith, inl, inr}
use Rattle.std.specs.Prelude.{length, ◌&&◌, ◌==◌, nat_lt, if◌then◌else◌, ◌-◌}
use Rattle.std.proofs.lemmas.Bool.{cases_lt}
use Rattle.std.proofs.lemmas.Bool.Decides.{nat_tests}
use Rattle.std.proofs.Math.Nat.{div-div-eq-div-mul}
use Rattle.std.proofs.lemmas.Grind.{pow_more}
use Rattle.td_num.proofs.Truths.{both_true}
use Rattle.td_report.specs.Report.{hex_digit, hex_digits}
use Rattle.td_report.proofs.Cutting.{Above}

-- the number that a digit stands for
abbrev value_of : ℕ → ℕ
value_of c = if nat_lt c 58 then c - 48 else c - 87

is_right : ℕ → Bool
is_right d = (value_of (hex_digit d) == d) && nat_lt 10 (hex_digit d)

abbrev are_right : ℕ → Bool
are_right zero = true
are_right (suc n) = is_right n && are_right n

all_right : are_right 16 ≡ true
unfolding hex_digit is_right
all_right = refl

right_below : (n d : ℕ) → are_right n ≡ true → d < n → is_right d ≡ true
right_below zero d h less = absurd (omega arith)
right_below (suc n) d h less = elim (cases_lt d n) [
  | inl below ↦ right_below n d (both_true (is_right n) (are_right n) h).1 below
  | inr above ↦ let same : n ≡ d = omega arith in let here = (both_true (is_right n) (are_right n) h).0 in rw (← same) here
]

digit_value : (d : ℕ) → d < 16 → value_of (hex_digit d) ≡ d
unfolding is_right
digit_value d small =
    let right = both_true (value_of (hex_digit d) == d) (nat_lt 10 (hex_digit d)) (right_below 16 d all_right small) in
    let same = right.0 in
    grind (arith, nat_tests)

digit_above : (d : ℕ) → d < 16 → 10 < hex_digit d
unfolding is_right
digit_above d small =
    let right = both_true (value_of (hex_digit d) == d) (nat_lt 10 (hex_digit d)) (right_below 16 d all_right small) in
    let high = right.1 in
    grind (arith, nat_tests)

same_digit : (d e : ℕ) → d < 16 → e < 16 → hex_digit d ≡ hex_digit e → d ≡ e
same_digit d e hd he same = sym (digit_value d hd) ∙ ap value_of same ∙ digit_value e he

pub hex_above : (n value : ℕ) → Above 10 (hex_digits n value)
unfolding hex_digits
hex_above zero value = tt
hex_above (suc n) value = (digit_above (value / 16 ^ n % 16) (omega arith), hex_above n value)

-- as many digits as are asked for
pub hex_length : (n value : ℕ) → length (hex_digits n value) ≡ n
unfolding hex_digits
hex_length zero value = refl
hex_length (suc n) value = ap suc (hex_length n value)

digits_at : (n v w : ℕ) → hex_digits n v ≡ hex_digits n w → (k : ℕ) → k < n → v / 16 ^ k % 16 ≡ w / 16 ^ k % 16
unfolding hex_digits
digits_at zero v w e k less = absurd (omega arith)
digits_at (suc n) v w e k less = elim (cases_lt k n) [
  | inl below ↦ digits_at n v w (cc) k below
  | inr above ↦
      let same : n ≡ k = omega arith in
      let first : hex_digit (v / 16 ^ n % 16) ≡ hex_digit (w / 16 ^ n % 16) = cc in
      let here = same_digit (v / 16 ^ n % 16) (w / 16 ^ n % 16) (omega arith) (omega arith) first in
      rw (← same) here
]

further : (v k : ℕ) → v / 16 ^ (k + 1) ≡ v / 16 / 16 ^ k
further v k = ap (λ n. v / n) (pow_more 16 k) ∙ ap (λ n. v / n) (times (16 ^ k)) ∙ sym (div-div-eq-div-mul v 16 (16 ^ k))
  where
    times : (x : ℕ) → x * 16 ≡ 16 * x
    times x = omega arith

same_by_digits : (n v w : ℕ) → v < 16 ^ n → w < 16 ^ n → ((k : ℕ) → k < n → v / 16 ^ k % 16 ≡ w / 16 ^ k % 16) → v ≡ w
same_by_digits zero v w hv hw same = omega arith
same_by_digits (suc n) v w hv hw same =
    let next : suc n ≡ n + 1 = omega arith in
    let more : 16 ^ suc n ≡ 16 ^ n * 16 = ap (λ k. 16 ^ k) next ∙ pow_more 16 n in
    let low : v / 1 % 16 ≡ w / 1 % 16 = same 0 (omega arith) in
    let high : v / 16 ≡ w / 16 = same_by_digits n (v / 16) (w / 16) (omega arith) (omega arith) (λ k h. rw (← further v k, ← further w k) (same (k + 1) (omega arith))) in
    omega arith

-- of a byte its two digits
pub same_byte : (v w : ℕ) → v < 256 → w < 256 → hex_digits 2 v ≡ hex_digits 2 w → v ≡ w
same_byte v w hv hw e = same_by_digits 2 v w hv hw (digits_at 2 v w e)

pub same_value : (v w : ℕ) → v < 2 ^ 64 → w < 2 ^ 64 → hex_digits 16 v ≡ hex_digits 16 w → v ≡ w
same_value v w hv hw e = same_by_digits 16 v w hv hw (digits_at 16 v w e)
