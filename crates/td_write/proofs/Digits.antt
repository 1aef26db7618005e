-- Bytes and bits, one by one.
use Rattle.std.proofs.Common.{◌≡◌, ℕ, zero, suc, ◌-◌, ◌*◌, ◌/◌, ◌%◌, ◌^◌, ◌<◌, ◌≤◌, List, [], ◌∷◌, ◌++◌, refl, sym, ap, ◌∙◌, arith, append_assoc}
use Rattle.std.specs.Prelude.{nat_le}
use Rattle.std.proofs.lemmas.Bool.{le-leb}
use Rattle.std.proofs.Math.Nat.{mul-le-mul_right}
use Rattle.std.proofs.Math.Pow.{pow_mono}
use Rattle.td_num.specs.Numbers.{byte_of}
use Rattle.td_write_values.specs.Bytes.{rising_bytes, falling_bytes}

pub rising_more : (w n : ℕ) (old mid new : List ℕ) → (w ≡ 0 → ⊥) → mid ≡ old ++ n % 256 ∷ [] → new ≡ mid ++ rising_bytes (w - 1) (n / 256) → new ≡ old ++ rising_bytes w n
rising_more zero n old mid new apart e f = absurd (apart refl)
rising_more (suc w) n old mid new apart e f =
    let less : suc w - 1 ≡ w = omega arith in
    f ∙ (λ i. e i ++ rising_bytes (less i) (n / 256)) ∙ append_assoc old (n % 256 ∷ []) (rising_bytes w (n / 256))

pub falling_more : (w n : ℕ) (old mid new : List ℕ) → (w ≡ 0 → ⊥) → mid ≡ old ++ byte_of n (w - 1) ∷ [] → new ≡ mid ++ falling_bytes (w - 1) n → new ≡ old ++ falling_bytes w n
falling_more zero n old mid new apart e f = absurd (apart refl)
falling_more (suc w) n old mid new apart e f =
    let less : suc w - 1 ≡ w = omega arith in
    f ∙ (λ i. (e ∙ ap (λ k. old ++ byte_of n k ∷ []) less) i ++ falling_bytes (less i) n) ∙ append_assoc old (byte_of n w ∷ []) (falling_bytes w n)

pub fits_wide : (n w : ℕ) → 64 ≤ w → n < 2 ^ 64 → nat_le 64 w ≡ nat_le n (2 ^ w - 1)
fits_wide n w h small =
    let more : 2 ^ 64 ≤ 2 ^ w = pow_mono h in
    let inside : n ≤ 2 ^ w - 1 = omega (arith, more, small) in
    le-leb 64 w h ∙ sym (le-leb n (2 ^ w - 1) inside)

pub at_bits_far : (n low : ℕ) → 64 ≤ low → (n ≡ 0 → ⊥) → 2 ^ 64 ≤ n * 2 ^ low
at_bits_far n low h apart =
    let more : 2 ^ 64 ≤ 2 ^ low = pow_mono h in
    let one : 1 ≤ n = omega (arith, apart) in
    let grown : 1 * 2 ^ low ≤ n * 2 ^ low = mul-le-mul_right (2 ^ low) one in
    omega (arith, more, grown)
