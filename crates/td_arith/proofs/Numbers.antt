-- Cited by other crates.
-- The numbers that fields bring into scope.
use Rattle.std.proofs.Common.{◌≡◌, ℕ, zero, suc, ◌+◌, ◌-◌, ◌*◌, ◌/◌, ◌^◌, ◌<◌, ◌≤◌, List, slice_index, sym, ap, ◌∙◌, arith, Option, Some, None}
use Rattle.std.proofs.Math.Nat.{mul-le-mul_right, mul_assoc, mul_comm, div-le_self, mod-le}
use Rattle.std.proofs.lemmas.Nat.{pow_pos, mod_below}
use Rattle.td_num.specs.Numbers.{bytes_in, falling_on, ordered_at, number_at}
use Rattle.td_num.specs.declared.number.Width.{Width}
use Rattle.td_num.specs.declared.number.ByteOrder.{ByteOrder}
use Rattle.td_num.specs.declared.number.ByteOrder.TheVariants.{LittleEndian, BigEndian}
use Rattle.td_arith.specs.Imports.{NumberType, Element, Number, Listed, Named, Unit as UnitElement, Rest, Zeros, Extent, Once, Filling, OnceFilling, UpToZero, Given, Bits}
use Rattle.td_num.specs.Lists.{AreBytes}
use Rattle.td_core.specs.Types.{limit}
use Rattle.td_core.specs.Formed.{scalar_of, bits_bound, part_bound}
use Rattle.td_meaning.specs.Meaning.{bits_of, given_value, field_number}
use Rattle.td_num.proofs.Digits.{power_of_bytes as power, rising_small}
use Rattle.td_expr.proofs.Widths.{limit_of_bytes as limit_is}

scaled : (n t : ℕ) → 256 * (n + 1) * t ≡ (n + 1) * (256 * t)
scaled n t = ap (λ x. x * t) (mul_comm 256 (n + 1)) ∙ mul_assoc (n + 1) 256 t

falling_small : (bytes : List ℕ) → AreBytes bytes → (n p w : ℕ) → falling_on n bytes p w < (n + 1) * 2 ^ (8 * w)
falling_small bytes small n p zero = omega arith
falling_small bytes small n p (suc w) =
    let t = 2 ^ (8 * w) in
    let d = slice_index bytes p in
    let digit : 256 * n + d + 1 ≤ 256 * (n + 1) = omega (arith, small p) in
    let rest = falling_small bytes small (256 * n + d) (p + 1) w in
    let room : (256 * n + d + 1) * t ≤ 256 * (n + 1) * t = mul-le-mul_right t digit in
    let same : (n + 1) * 2 ^ (8 * suc w) ≡ 256 * (n + 1) * t = ap (λ x. (n + 1) * x) (power w) ∙ sym (scaled n t) in
    omega (arith, rest, room, same)

ordered_small : (bytes : List ℕ) → AreBytes bytes → (o : ByteOrder) (p w : ℕ) → ordered_at o bytes p w < 2 ^ (8 * w)
ordered_small bytes small LittleEndian p w = rising_small bytes small p w
ordered_small bytes small BigEndian p w = omega (arith, falling_small bytes small 0 p w)

number_small : (bytes : List ℕ) → AreBytes bytes → (type : NumberType) (p : ℕ) → number_at type bytes p ≤ limit (scalar_of type.width) - 1
number_small bytes small type p =
    let h = ordered_small bytes small type.order p (bytes_in type.width) in
    let e = limit_is type.width in
    omega (arith, h, e)

pub bits_small : (width : Width) (bits : Option Bits) (n : ℕ) → n ≤ limit (scalar_of width) - 1 → bits_of bits n ≤ (bits_bound width bits).most
bits_small width None n h = h
bits_small width (Some bits) n h = let below = mod_below (n / 2 ^ bits.low) (2 ^ bits.width) (pow_pos bits.width) in omega (arith, below)

pub no_bits : (bits : Option Bits) → bits_of bits 0 ≤ 0
no_bits None = omega arith
no_bits (Some bits) = omega (arith, mod-le (0 / 2 ^ bits.low) (2 ^ bits.width), div-le_self 0 (2 ^ bits.low))

-- what gives a field without bytes its number is no greater than the field can be
abbrev pub IsGivenFit : Element → Extent → List ℕ → List ℕ → ℕ → ℕ → List ℕ → Type 0
IsGivenFit element Once env places end p cells = Unit {0}
IsGivenFit element (Filling size step) env places end p cells = Unit {0}
IsGivenFit element (OnceFilling size step) env places end p cells = Unit {0}
IsGivenFit element (UpToZero size) env places end p cells = Unit {0}
IsGivenFit element (Given source) env places end p cells = given_value source env places end p cells ≤ (part_bound element (Given source) None).most

pub field_number_fits : (element : Element) (extent : Extent) (env places bytes : List ℕ) → AreBytes bytes → (end p : ℕ) (cells : List ℕ) (bits : Option Bits) → IsGivenFit element extent env places end p cells
    → bits_of bits (field_number element extent env places bytes end p cells) ≤ (part_bound element extent bits).most
field_number_fits (Number type) Once env places bytes small end p cells bits h = bits_small type.width bits (number_at type bytes p) (number_small bytes small type p)
field_number_fits (Listed base k) Once env places bytes small end p cells bits h = bits_small base.width bits (number_at base bytes p) (number_small bytes small base p)
field_number_fits (Named j args own) Once env places bytes small end p cells bits h = no_bits bits
field_number_fits UnitElement Once env places bytes small end p cells bits h = no_bits bits
field_number_fits Rest Once env places bytes small end p cells bits h = no_bits bits
field_number_fits Zeros Once env places bytes small end p cells bits h = no_bits bits
field_number_fits (Number type) (Filling e step) env places bytes small end p cells bits h = no_bits bits
field_number_fits (Listed base k) (Filling e step) env places bytes small end p cells bits h = no_bits bits
field_number_fits (Named j args own) (Filling e step) env places bytes small end p cells bits h = no_bits bits
field_number_fits UnitElement (Filling e step) env places bytes small end p cells bits h = no_bits bits
field_number_fits Rest (Filling e step) env places bytes small end p cells bits h = no_bits bits
field_number_fits Zeros (Filling e step) env places bytes small end p cells bits h = no_bits bits
field_number_fits (Number type) (OnceFilling e step) env places bytes small end p cells bits h = no_bits bits
field_number_fits (Listed base k) (OnceFilling e step) env places bytes small end p cells bits h = no_bits bits
field_number_fits (Named j args own) (OnceFilling e step) env places bytes small end p cells bits h = no_bits bits
field_number_fits UnitElement (OnceFilling e step) env places bytes small end p cells bits h = no_bits bits
field_number_fits Rest (OnceFilling e step) env places bytes small end p cells bits h = no_bits bits
field_number_fits Zeros (OnceFilling e step) env places bytes small end p cells bits h = no_bits bits
field_number_fits (Number type) (UpToZero e) env places bytes small end p cells bits h = no_bits bits
field_number_fits (Number type) (Given source) env places bytes small end p cells bits h = bits_small type.width bits (given_value source env places end p cells) h
field_number_fits (Listed base k) (UpToZero e) env places bytes small end p cells bits h = no_bits bits
field_number_fits (Listed base k) (Given source) env places bytes small end p cells bits h = no_bits bits
field_number_fits (Named j args own) (UpToZero e) env places bytes small end p cells bits h = no_bits bits
field_number_fits (Named j args own) (Given source) env places bytes small end p cells bits h = no_bits bits
field_number_fits UnitElement (UpToZero e) env places bytes small end p cells bits h = no_bits bits
field_number_fits UnitElement (Given source) env places bytes small end p cells bits h = no_bits bits
field_number_fits Rest (UpToZero e) env places bytes small end p cells bits h = no_bits bits
field_number_fits Rest (Given source) env places bytes small end p cells bits h = no_bits bits
field_number_fits Zeros (UpToZero e) env places bytes small end p cells bits h = no_bits bits
field_number_fits Zeros (Given source) env places bytes small end p cells bits h = no_bits bits
