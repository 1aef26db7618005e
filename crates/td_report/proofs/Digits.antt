-- The digits of a number, written from the last one back.
use Rattle.std.proofs.Common.{◌≡◌, ℕ, ◌+◌, ◌-◌, ◌/◌, ◌%◌, ◌^◌, ◌<◌, List, ◌∷◌, length, drop, set, refl, sym, ap, ◌∙◌, arith, add-one}
use Rattle.std.proofs.lemmas.Grind.{drop-set_at, pow_more}
use Rattle.std.proofs.Math.Nat.{div-div-eq-div-mul}
use Rattle.td_report.specs.Report.{hex_digit, hex_digits}

hex_digits_more : (count value : ℕ) → hex_digits (count + 1) value ≡ hex_digit (value / 16 ^ count % 16) ∷ hex_digits count value
unfolding hex_digits
hex_digits_more count value = rw add-one refl

pub digits_more : (digits : List ℕ) (count value rest : ℕ) → count < 16 → length digits ≡ 16 → rest ≡ value / 16 ^ count → drop (16 - count) digits ≡ hex_digits count value → drop (16 - (count + 1)) (set digits (15 - count) (hex_digit (rest % 16))) ≡ hex_digits (count + 1) value
digits_more digits count value rest below size same done =
    let place : 15 - count + 1 ≡ 16 - count = omega arith in
    drop-set_at digits (15 - count) (16 - (count + 1)) (hex_digit (rest % 16)) (omega arith) (omega arith)
    ∙ ap (λ (n : ℕ). hex_digit (rest % 16) ∷ drop n digits) place
    ∙ ap (λ (l : List ℕ). hex_digit (rest % 16) ∷ l) done
    ∙ ap (λ (n : ℕ). hex_digit (n % 16) ∷ hex_digits count value) same
    ∙ sym (hex_digits_more count value)

pub rest_more : (value rest count : ℕ) → rest ≡ value / 16 ^ count → rest / 16 ≡ value / 16 ^ (count + 1)
rest_more value rest count same =
    ap (λ (n : ℕ). n / 16) same ∙ div-div-eq-div-mul value (16 ^ count) 16 ∙ ap (λ (n : ℕ). value / n) (sym (pow_more 16 count))
