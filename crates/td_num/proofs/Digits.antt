-- Numbers of bytes: digits in base 256, and their room. Cited by other crates.
use Rattle.std.proofs.Common.{◌≡◌, inl, inr, ℕ, zero, suc, ◌+◌, ◌-◌, ◌*◌, ◌%◌, ◌^◌, ◌<◌, ◌≤◌, List, length, sym, ap, subst, ◌∙◌, arith, lit<}
use Rattle.std.specs.Prelude.{slice_index}
use Rattle.std.specs.List.{All}
use Rattle.std.proofs.Math.Nat.{pow-suc, pow-le-pow_right, mul-le-mul_left, mul-le-mul_right, mul-suc}
use Rattle.std.proofs.Math.ListN.{get_or-eq_default}
use Rattle.std.proofs.lemmas.Bool.{cases_order}
use Rattle.std.proofs.lemmas.Nat.{pow-add}
use Rattle.td_num.specs.Numbers.{rising_at, falling_on}
use Rattle.td_num.specs.Lists.{AreBytes}

-- a list of bytes, as std says it
pub are_bytes : (b : List ℕ) → All (λ x. x < 256) b → AreBytes b
are_bytes b all i =
    elim (cases_order i (length b)) [
      | inl same ↦ past (omega arith)
      | inr other ↦ elim other [ inl inside ↦ all i 0 inside | inr outside ↦ past (omega arith) ]
    ]
  where
    past : length b ≤ i → slice_index b i < 256
    past h = let none : slice_index b i ≡ 0 = get_or-eq_default b 0 h in omega arith

-- what is left of a number in base 256 is a byte
pub byte_below : (n : ℕ) → n % 256 < 256
byte_below n = omega arith

-- a byte more is 8 bits more
pub power_of_bytes : (k : ℕ) → 2 ^ (8 * suc k) ≡ 256 * 2 ^ (8 * k)
power_of_bytes k = rw mul-suc (rw pow-add (omega arith))

-- the number of so many bytes is small
pub rising_small : (bytes : List ℕ) → AreBytes bytes → (p w : ℕ) → rising_at bytes p w < 2 ^ (8 * w)
rising_small bytes small p zero = lit< tt
rising_small bytes small p (suc w) =
    let rest = rising_small bytes small (p + 1) w in
    let low = small p in
    rw power_of_bytes (omega arith)

-- a number of one more byte
pub power_more : (w high low : ℕ) → high < 256 ^ w → low < 256 → 256 * high + low < 256 ^ suc w
power_more w high low h l = simp pow-suc (omega (arith, h, l))

pub power_fits : (w high low : ℕ) → 0 < w → w ≤ 8 → high < 256 ^ (w - 1) → low < 256 → 256 * high + low < 256 ^ w
power_fits zero high low p s h l = absurd (omega arith)
power_fits (suc w) high low p s h l = let k : high < 256 ^ w = subst (λ n. high < 256 ^ n) (let e : suc w - 1 ≡ w = omega arith in e) h in power_more w high low k l

pub power_top : (w x : ℕ) → w ≤ 8 → x < 256 ^ w → x < 2 ^ 64
power_top w x s h = let k : 256 ^ w ≤ 256 ^ 8 = pow-le-pow_right {n = 256} (omega arith) s in omega (arith, h, k)

-- one byte, and those after it
pub number_more : (b : List ℕ) (p w high low : ℕ) → 0 < w → high ≡ rising_at b (p + 1) (w - 1) → low ≡ slice_index b p → 256 * high + low ≡ rising_at b p w
number_more b p zero high low l e f = absurd (omega arith)
number_more b p (suc w) high low l e f = let k : suc w - 1 ≡ w = omega arith in let e' : high ≡ rising_at b (p + 1) w = e ∙ ap (λ n. rising_at b (p + 1) n) k in ap (λ n. 256 * n + low) e' ∙ ap (λ n. 256 * rising_at b (p + 1) w + n) f

pub sum_top : (w high low : ℕ) → 0 < w → w ≤ 8 → high < 256 ^ (w - 1) → low < 256 → 256 * high + low < 2 ^ 64
sum_top w high low p s h l = power_top w (256 * high + low) s (power_fits w high low p s h l)

pub scale : (n x : ℕ) → (n + 1) * (x * 256) ≡ (256 * n + 256) * x
scale n x = grind arith

-- a further digit keeps the room
pub digit_room : (n d w : ℕ) → 0 < w → d < 256 → (256 * n + d + 1) * 256 ^ (w - 1) ≤ (n + 1) * 256 ^ w
digit_room n d zero p l = absurd (omega arith)
digit_room n d (suc w) p l =
    let e : suc w - 1 ≡ w = omega arith in
    let same : (n + 1) * 256 ^ suc w ≡ (256 * n + 256) * 256 ^ w = ap (λ x. (n + 1) * x) (pow-suc 256 w) ∙ scale n (256 ^ w) in
    let few : 256 * n + d + 1 ≤ 256 * n + 256 = omega arith in
    let more : (256 * n + d + 1) * 256 ^ w ≤ (256 * n + 256) * 256 ^ w = mul-le-mul_right (256 ^ w) few in
    subst (λ k. (256 * n + d + 1) * 256 ^ k ≤ (n + 1) * 256 ^ suc w) (sym e) (subst (λ x. (256 * n + d + 1) * 256 ^ w ≤ x) (sym same) more)

pub falling_more : (b : List ℕ) (n p q w d r : ℕ) → 0 < w → d ≡ slice_index b p → q ≡ p + 1 → r ≡ falling_on (256 * n + d) b q (w - 1) → r ≡ falling_on n b p w
falling_more b n p q zero d r l e f h = absurd (omega arith)
falling_more b n p q (suc w) d r l e f h =
    let k : suc w - 1 ≡ w = omega arith in
    h ∙ ap (λ x. falling_on (256 * n + d) b q x) k ∙ ap (λ x. falling_on (256 * n + d) b x w) f ∙ ap (λ x. falling_on (256 * n + x) b (p + 1) w) e

pub digit_top : (n d w : ℕ) → 0 < w → d < 256 → (n + 1) * 256 ^ w ≤ 2 ^ 64 → 256 * n + d < 2 ^ 64
digit_top n d w p l h =
    let some : 1 ≤ w = p in
    let big : 0 < 256 = omega arith in
    let one : 256 ^ 1 ≤ 256 ^ w = pow-le-pow_right {n = 256} big some in
    let more : (n + 1) * 256 ≤ (n + 1) * 256 ^ w = mul-le-mul_left (n + 1) one in
    omega (arith, more, h, l)
