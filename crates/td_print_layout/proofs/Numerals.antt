-- The digits that are written for a number spell it.
use Rattle.std.proofs.Common.{◌≡◌, ℕ, ◌+◌, ◌*◌, ◌<◌, ◌≤◌, ◌^◌, Bool, true, false, cond, List, [], ◌∷◌, length, refl, ap, ◌∙◌, arith}
use Rattle.std.specs.Prelude.{◌||◌, nat_lt, nat_le}
use Rattle.std.proofs.lemmas.Bool.Decides.{nat_tests}
use Rattle.std.specs.Char.{digit_value as value_in_std}
use Rattle.std.specs.Str.Parse.{AllDigits, digits_value_after}
use Rattle.std.specs.Fmt.{digits, decimal}
use Rattle.std.proofs.lemmas.Fmt.{digits_is_IsNumeral, decimal_is_IsNumeral}
use Rattle.std.proofs.lemmas.Bool.{and_from}
use Rattle.td_ast.specs.declared.token.Base.{Base}
use Rattle.td_ast.specs.declared.token.Base.TheVariants.{Decimal, Hexadecimal}
use Rattle.td_lexer.specs.Bytes.{is_digit, is_hexadecimal, every, digit_value, value_from}
use Rattle.td_lexer.specs.Numerals.{numeral_value}
use Rattle.td_lexer.specs.Splits.{IsNumeral}
use Rattle.td_print_layout.specs.Pieces.{number_spelling}

-- ---- one digit

ten_digit : (c : ℕ) → value_in_std c < 10 → is_digit c ≡ true
ten_digit c lt = grind (arith, nat_tests)

ten_value : (c : ℕ) → value_in_std c < 10 → value_in_std c ≡ digit_value c
ten_value c lt = grind (arith, nat_tests)

sixteen_digit : (c : ℕ) → value_in_std c < 16 → is_hexadecimal c ≡ true
sixteen_digit c lt = grind (arith, nat_tests)

sixteen_value : (c : ℕ) → value_in_std c < 16 → value_in_std c ≡ digit_value c
sixteen_value c lt = grind (arith, nat_tests)

-- ---- all digits

module _ (radix : ℕ) (sort : ℕ → Bool) (is : (c : ℕ) → value_in_std c < radix → sort c ≡ true) (same : (c : ℕ) → value_in_std c < radix → value_in_std c ≡ digit_value c) where
  every_digit : (ds : List ℕ) → AllDigits radix ds → every sort ds ≡ true
  every_digit [] all = refl
  every_digit (c ∷ ds) all = and_from (sort c) (every sort ds) (is c all.0) (every_digit ds all.1)

  value_after : (n : ℕ) (ds : List ℕ) → AllDigits radix ds → value_from radix n ds ≡ digits_value_after radix n ds
  value_after n [] all = refl
  value_after n (c ∷ ds) all =
      let e = same c all.0 in
      let next : radix * n + digit_value c ≡ n * radix + value_in_std c = grind arith in
      ap (λ (m : ℕ). value_from radix m ds) next ∙ value_after (n * radix + value_in_std c) ds all.1

-- ---- numbers

pub number_spelled : (n : ℕ) (base : Base) → n < 2 ^ 64 → IsNumeral base (number_spelling n base) × (numeral_value base (number_spelling n base) ≡ n)
number_spelled n Decimal small =
    let h = decimal_is_IsNumeral n small in
    ((h.0.0, every_digit 10 is_digit ten_digit ten_value (decimal n) h.0.1), value_after 10 is_digit ten_digit ten_value 0 (decimal n) h.0.1 ∙ h.1)
number_spelled n Hexadecimal small =
    let h = digits_is_IsNumeral 16 false (omega arith) (omega arith) n (omega arith) in
    let ds = digits 16 false n in
    ((120, ds, refl, refl, h.0.0, every_digit 16 is_hexadecimal sixteen_digit sixteen_value ds h.0.1), value_after 16 is_hexadecimal sixteen_digit sixteen_value 0 ds h.0.1 ∙ h.1)
