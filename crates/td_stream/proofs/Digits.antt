-- Digits in base 256.
use Rattle.std.proofs.Common.{zero, suc, ◌≡◌, ℕ, ◌+◌, ◌-◌, ◌*◌, ◌/◌, ◌%◌, ◌^◌, ◌<◌, ◌≤◌, ◌⊎◌, inl, inr, List, sym, ap, ◌∙◌, refl, subst, arith, slice_index, bit_and}
use Rattle.std.proofs.lemmas.Bool.Decides.{leb_tells}
use Rattle.std.specs.Int.{w64, swap_bytes}
use Rattle.std.proofs.lemmas.Nat.{and_mask, field_of, pow-add, div-mul-add, mod-mul-add, shl_whole}
use Rattle.std.proofs.Math.Pow.{mod-mod-pow}
use Rattle.std.proofs.Math.Nat.{div-div-eq-div-mul, pow-le-pow_right, mul-le-mul_right}
use Rattle.td_num.specs.Numbers.{byte_of, rising_at, falling_at}
use Rattle.td_stream.specs.Digits.{HasDigits}

-- digit j of what is left behind i digits
pub shifted : (v i j : ℕ) → byte_of (v / 2 ^ (8 * i)) j ≡ byte_of v (i + j)
shifted v i j =
    let together : v / 2 ^ (8 * i) / 2 ^ (8 * j) ≡ v / (2 ^ (8 * i) * 2 ^ (8 * j)) = div-div-eq-div-mul v (2 ^ (8 * i)) (2 ^ (8 * j)) in
    let sum : 8 * i + 8 * j ≡ 8 * (i + j) = omega arith in
    let power : 2 ^ (8 * i) * 2 ^ (8 * j) ≡ 2 ^ (8 * (i + j)) = sym (pow-add 2 (8 * i) (8 * j)) ∙ ap (λ n. 2 ^ n) sum in
    ap (λ n. n % 256) (together ∙ ap (λ n. v / n) power)

-- a digit of the lowest c
pub lowest : (v c j : ℕ) → j < c → byte_of (v % 2 ^ (8 * c)) j ≡ byte_of v j
lowest v c j h =
    let more : (8 * c - (8 + 8 * j)) + (8 + 8 * j) ≡ 8 * c = omega (arith, h) in
    let cut : v % 2 ^ (8 * c) % 2 ^ (8 + 8 * j) ≡ v % 2 ^ (8 + 8 * j) = subst (λ n. v % 2 ^ n % 2 ^ (8 + 8 * j) ≡ v % 2 ^ (8 + 8 * j)) more (mod-mod-pow v (8 * c - (8 + 8 * j)) (8 + 8 * j)) in
    sym (field_of (v % 2 ^ (8 * c)) 8 (8 * j)) ∙ ap (λ n. n / 2 ^ (8 * j)) cut ∙ field_of v 8 (8 * j)

pub digit_inside : (v i c j : ℕ) → j < c → byte_of (v / 2 ^ (8 * i) % 2 ^ (8 * c)) j ≡ byte_of v (i + j)
digit_inside v i c j h = lowest (v / 2 ^ (8 * i)) c j h ∙ shifted v i j

pub digit_low : (high low c j : ℕ) → low < 2 ^ (8 * c) → j < c → byte_of (high * 2 ^ (8 * c) + low) j ≡ byte_of low j
digit_low high low c j l h = sym (lowest (high * 2 ^ (8 * c) + low) c j h) ∙ ap (λ n. byte_of n j) (mod-mul-add high (2 ^ (8 * c)) low l)

pub digit_high : (high low c j : ℕ) → low < 2 ^ (8 * c) → byte_of (high * 2 ^ (8 * c) + low) (c + j) ≡ byte_of high j
digit_high high low c j l = sym (shifted (high * 2 ^ (8 * c) + low) c j) ∙ ap (λ n. byte_of n j) (div-mul-add high (2 ^ (8 * c)) low l)

below_or : (a b : ℕ) → (a < b) ⊎ (b ≤ a)
below_or a b = elim (leb_tells b a) [ inl t ↦ inr t.1 | inr f ↦ inl f.1 ]

-- the lowest digits and the others
pub joined_digits : (b : List ℕ) (p c m high low : ℕ) → low < 2 ^ (8 * c) → HasDigits b p c low → HasDigits b (p + c) m high → HasDigits b p (c + m) (high * 2 ^ (8 * c) + low)
joined_digits b p c m high low l h k = λ j less. go j less (below_or j c)
  where
    go : (j : ℕ) → j < c + m → (j < c) ⊎ (c ≤ j) → byte_of (high * 2 ^ (8 * c) + low) j ≡ slice_index b (p + j)
    go j less (inl a) = digit_low high low c j l a ∙ h j a
    go j less (inr a) =
        let back : c + (j - c) ≡ j = omega (arith, a) in
        let place : p + c + (j - c) ≡ p + j = omega (arith, a) in
        ap (λ n. byte_of (high * 2 ^ (8 * c) + low) n) (sym back) ∙ digit_high high low c (j - c) l ∙ k (j - c) (omega (arith, less, a)) ∙ ap (λ n. slice_index b n) place

-- all ones
pub ones : (c : ℕ) → c ≤ 8 → 18446744073709551615 / 2 ^ (64 - 8 * c) ≡ 2 ^ (8 * c) - 1
ones zero h = refl
ones (suc zero) h = refl
ones (suc (suc zero)) h = refl
ones (suc (suc (suc zero))) h = refl
ones (suc (suc (suc (suc zero)))) h = refl
ones (suc (suc (suc (suc (suc zero))))) h = refl
ones (suc (suc (suc (suc (suc (suc zero)))))) h = refl
ones (suc (suc (suc (suc (suc (suc (suc zero))))))) h = refl
ones (suc (suc (suc (suc (suc (suc (suc (suc zero)))))))) h = refl
ones (suc (suc (suc (suc (suc (suc (suc (suc (suc n))))))))) h = absurd (omega arith)

pub masked : (n c : ℕ) → c ≤ 8 → bit_and n (18446744073709551615 / 2 ^ (64 - 8 * c)) ≡ n % 2 ^ (8 * c)
masked n c h = ap (λ m. bit_and n m) (ones c h) ∙ and_mask n (8 * c)

pub joined_fits : (high low c m : ℕ) → low < 2 ^ (8 * c) → high < 2 ^ (8 * m) → high * 2 ^ (8 * c) + low < 2 ^ (8 * (c + m))
joined_fits high low c m l h =
    let sum : 8 * m + 8 * c ≡ 8 * (c + m) = omega arith in
    let top : (high + 1) * 2 ^ (8 * c) ≤ 2 ^ (8 * m) * 2 ^ (8 * c) = mul-le-mul_right (2 ^ (8 * c)) (omega (arith, h)) in
    let power : 2 ^ (8 * m) * 2 ^ (8 * c) ≡ 2 ^ (8 * (c + m)) = sym (pow-add 2 (8 * m) (8 * c)) ∙ ap (λ n. 2 ^ n) sum in
    let one : (high + 1) * 2 ^ (8 * c) ≡ high * 2 ^ (8 * c) + 2 ^ (8 * c) = grind arith in
    omega (arith, l, top, power, one)

pub fits_word : (n c : ℕ) → c ≤ 8 → n < 2 ^ (8 * c) → n < 2 ^ 64
fits_word n c h l =
    let some : 0 < 2 = omega arith in
    let few : 8 * c ≤ 64 = omega (arith, h) in
    let k : 2 ^ (8 * c) ≤ 2 ^ 64 = pow-le-pow_right {n = 2} some few in
    omega (arith, l, k)

pub shifted_whole : (high c m : ℕ) → c + m ≤ 8 → high < 2 ^ (8 * m) → high * 2 ^ (8 * c) % 2 ^ 64 ≡ high * 2 ^ (8 * c)
shifted_whole high c m h l = shl_whole high (8 * m) (8 * c) 64 l (omega (arith, h))

first_digit : (b : List ℕ) (p w n : ℕ) → 0 < w → HasDigits b p w n → n % 256 ≡ slice_index b p
first_digit b p w n l h =
    let whole : n ≡ n / 1 = omega arith in
    let place : p + 0 ≡ p = omega arith in
    ap (λ x. x % 256) whole ∙ h 0 l ∙ ap (λ x. slice_index b x) place

-- a number by its digits, the first of least weight
pub rising_digits : (b : List ℕ) (p w n : ℕ) → n < 2 ^ (8 * w) → HasDigits b p w n → n ≡ rising_at b p w
rising_digits b p zero n l h = omega (arith, l)
rising_digits b p (suc w) n l h =
    let first : n % 256 ≡ slice_index b p = first_digit b p (suc w) n (omega arith) h in
    let rest : n / 256 ≡ rising_at b (p + 1) w = rising_digits b (p + 1) w (n / 256) less later in
    let parts : n ≡ 256 * (n / 256) + n % 256 = omega arith in
    parts ∙ ap (λ x. 256 * x + n % 256) rest ∙ ap (λ x. 256 * rising_at b (p + 1) w + x) first
  where
    less : n / 256 < 2 ^ (8 * w)
    less =
        let sum : 8 * w + 8 ≡ 8 * suc w = omega arith in
        let power : 2 ^ (8 * suc w) ≡ 2 ^ (8 * w) * 256 = ap (λ x. 2 ^ x) (sym sum) ∙ pow-add 2 (8 * w) 8 in
        omega (arith, l, power)

    later : HasDigits b (p + 1) w (n / 256)
    later = λ j a.
        let one : 1 + j ≡ suc j = omega arith in
        let place : p + suc j ≡ p + 1 + j = omega arith in
        shifted n 1 j ∙ ap (λ x. byte_of n x) one ∙ h (suc j) (omega (arith, a)) ∙ ap (λ x. slice_index b x) place

-- the sum that a number with its bytes swapped is
swapped : (n x0 x1 x2 x3 x4 x5 x6 x7 : ℕ) → n % 256 ≡ x0 → n / 256 % 256 ≡ x1 → n / 65536 % 256 ≡ x2 → n / 16777216 % 256 ≡ x3 → n / 4294967296 % 256 ≡ x4 → n / 1099511627776 % 256 ≡ x5 → n / 281474976710656 % 256 ≡ x6 → n / 72057594037927936 % 256 ≡ x7
    → swap_bytes w64 n ≡ x0 * 72057594037927936 + x1 * 281474976710656 + x2 * 1099511627776 + x3 * 4294967296 + x4 * 16777216 + x5 * 65536 + x6 * 256 + x7
swapped n x0 x1 x2 x3 x4 x5 x6 x7 e0 e1 e2 e3 e4 e5 e6 e7 = λ i. e0 i * 72057594037927936 + e1 i * 281474976710656 + e2 i * 1099511627776 + e3 i * 4294967296 + e4 i * 16777216 + e5 i * 65536 + e6 i * 256 + e7 i

top_one : (s x0 : ℕ) → s ≡ x0 * 72057594037927936 + 0 * 281474976710656 + 0 * 1099511627776 + 0 * 4294967296 + 0 * 16777216 + 0 * 65536 + 0 * 256 + 0 → s / 72057594037927936 ≡ 256 * 0 + x0
top_one s x0 e = omega (arith, e)

top_two : (s x0 x1 : ℕ) → s ≡ x0 * 72057594037927936 + x1 * 281474976710656 + 0 * 1099511627776 + 0 * 4294967296 + 0 * 16777216 + 0 * 65536 + 0 * 256 + 0 → s / 281474976710656 ≡ 256 * (256 * 0 + x0) + x1
top_two s x0 x1 e = omega (arith, e)

top_three : (s x0 x1 x2 : ℕ) → s ≡ x0 * 72057594037927936 + x1 * 281474976710656 + x2 * 1099511627776 + 0 * 4294967296 + 0 * 16777216 + 0 * 65536 + 0 * 256 + 0 → s / 1099511627776 ≡ 256 * (256 * (256 * 0 + x0) + x1) + x2
top_three s x0 x1 x2 e = omega (arith, e)

top_four : (s x0 x1 x2 x3 : ℕ) → s ≡ x0 * 72057594037927936 + x1 * 281474976710656 + x2 * 1099511627776 + x3 * 4294967296 + 0 * 16777216 + 0 * 65536 + 0 * 256 + 0 → s / 4294967296 ≡ 256 * (256 * (256 * (256 * 0 + x0) + x1) + x2) + x3
top_four s x0 x1 x2 x3 e = omega (arith, e)

top_five : (s x0 x1 x2 x3 x4 : ℕ) → s ≡ x0 * 72057594037927936 + x1 * 281474976710656 + x2 * 1099511627776 + x3 * 4294967296 + x4 * 16777216 + 0 * 65536 + 0 * 256 + 0 → s / 16777216 ≡ 256 * (256 * (256 * (256 * (256 * 0 + x0) + x1) + x2) + x3) + x4
top_five s x0 x1 x2 x3 x4 e = omega (arith, e)

top_six : (s x0 x1 x2 x3 x4 x5 : ℕ) → s ≡ x0 * 72057594037927936 + x1 * 281474976710656 + x2 * 1099511627776 + x3 * 4294967296 + x4 * 16777216 + x5 * 65536 + 0 * 256 + 0 → s / 65536 ≡ 256 * (256 * (256 * (256 * (256 * (256 * 0 + x0) + x1) + x2) + x3) + x4) + x5
top_six s x0 x1 x2 x3 x4 x5 e = omega (arith, e)

top_seven : (s x0 x1 x2 x3 x4 x5 x6 : ℕ) → s ≡ x0 * 72057594037927936 + x1 * 281474976710656 + x2 * 1099511627776 + x3 * 4294967296 + x4 * 16777216 + x5 * 65536 + x6 * 256 + 0 → s / 256 ≡ 256 * (256 * (256 * (256 * (256 * (256 * (256 * 0 + x0) + x1) + x2) + x3) + x4) + x5) + x6
top_seven s x0 x1 x2 x3 x4 x5 x6 e = omega (arith, e)

top_eight : (s x0 x1 x2 x3 x4 x5 x6 x7 : ℕ) → s ≡ x0 * 72057594037927936 + x1 * 281474976710656 + x2 * 1099511627776 + x3 * 4294967296 + x4 * 16777216 + x5 * 65536 + x6 * 256 + x7 → s / 1 ≡ 256 * (256 * (256 * (256 * (256 * (256 * (256 * (256 * 0 + x0) + x1) + x2) + x3) + x4) + x5) + x6) + x7
top_eight s x0 x1 x2 x3 x4 x5 x6 x7 e = omega (arith, e)

-- a number by its digits, the first of most weight
pub falling_digits : (c : ℕ) (b : List ℕ) (p n : ℕ) → 0 < c → c ≤ 8 → n < 2 ^ (8 * c) → HasDigits b p c n → swap_bytes w64 n / 2 ^ (64 - 8 * c) ≡ falling_at b p c
falling_digits zero b p n some few l h = absurd (omega (arith, some))
falling_digits (suc zero) b p n some few l h =
    let less : n < 256 = l in
    top_one (swap_bytes w64 n) (slice_index b p)
    (swapped n (slice_index b p) 0 0 0 0 0 0 0 (first_digit b p 1 n (omega arith) h) (omega (arith, less)) (omega (arith, less)) (omega (arith, less)) (omega (arith, less)) (omega (arith, less)) (omega (arith, less)) (omega (arith, less)))
falling_digits (suc (suc zero)) b p n some few l h =
    let less : n < 65536 = l in
    top_two (swap_bytes w64 n) (slice_index b p) (slice_index b (p + 1))
    (swapped n (slice_index b p) (slice_index b (p + 1)) 0 0 0 0 0 0 (first_digit b p 2 n (omega arith) h) (h 1 (omega arith)) (omega (arith, less)) (omega (arith, less)) (omega (arith, less)) (omega (arith, less)) (omega (arith, less)) (omega (arith, less)))
falling_digits (suc (suc (suc zero))) b p n some few l h =
    let less : n < 16777216 = l in
    let e2 : p + 2 ≡ p + 1 + 1 = omega arith in
    top_three (swap_bytes w64 n) (slice_index b p) (slice_index b (p + 1)) (slice_index b (p + 1 + 1))
    (swapped n (slice_index b p) (slice_index b (p + 1)) (slice_index b (p + 1 + 1)) 0 0 0 0 0 (first_digit b p 3 n (omega arith) h) (h 1 (omega arith)) (h 2 (omega arith) ∙ ap (λ x. slice_index b x) e2) (omega (arith, less)) (omega (arith, less)) (omega (arith, less)) (omega (arith, less)) (omega (arith, less)))
falling_digits (suc (suc (suc (suc zero)))) b p n some few l h =
    let less : n < 4294967296 = l in
    let e2 : p + 2 ≡ p + 1 + 1 = omega arith in
    let e3 : p + 3 ≡ p + 1 + 1 + 1 = omega arith in
    top_four (swap_bytes w64 n) (slice_index b p) (slice_index b (p + 1)) (slice_index b (p + 1 + 1)) (slice_index b (p + 1 + 1 + 1))
    (swapped n (slice_index b p) (slice_index b (p + 1)) (slice_index b (p + 1 + 1)) (slice_index b (p + 1 + 1 + 1)) 0 0 0 0 (first_digit b p 4 n (omega arith) h) (h 1 (omega arith)) (h 2 (omega arith) ∙ ap (λ x. slice_index b x) e2) (h 3 (omega arith) ∙ ap (λ x. slice_index b x) e3) (omega (arith, less)) (omega (arith, less)) (omega (arith, less)) (omega (arith, less)))
falling_digits (suc (suc (suc (suc (suc zero))))) b p n some few l h =
    let less : n < 1099511627776 = l in
    let e2 : p + 2 ≡ p + 1 + 1 = omega arith in
    let e3 : p + 3 ≡ p + 1 + 1 + 1 = omega arith in
    let e4 : p + 4 ≡ p + 1 + 1 + 1 + 1 = omega arith in
    top_five (swap_bytes w64 n) (slice_index b p) (slice_index b (p + 1)) (slice_index b (p + 1 + 1)) (slice_index b (p + 1 + 1 + 1)) (slice_index b (p + 1 + 1 + 1 + 1))
    (swapped n (slice_index b p) (slice_index b (p + 1)) (slice_index b (p + 1 + 1)) (slice_index b (p + 1 + 1 + 1)) (slice_index b (p + 1 + 1 + 1 + 1)) 0 0 0 (first_digit b p 5 n (omega arith) h) (h 1 (omega arith)) (h 2 (omega arith) ∙ ap (λ x. slice_index b x) e2) (h 3 (omega arith) ∙ ap (λ x. slice_index b x) e3) (h 4 (omega arith) ∙ ap (λ x. slice_index b x) e4) (omega (arith, less)) (omega (arith, less)) (omega (arith, less)))
falling_digits (suc (suc (suc (suc (suc (suc zero)))))) b p n some few l h =
    let less : n < 281474976710656 = l in
    let e2 : p + 2 ≡ p + 1 + 1 = omega arith in
    let e3 : p + 3 ≡ p + 1 + 1 + 1 = omega arith in
    let e4 : p + 4 ≡ p + 1 + 1 + 1 + 1 = omega arith in
    let e5 : p + 5 ≡ p + 1 + 1 + 1 + 1 + 1 = omega arith in
    top_six (swap_bytes w64 n) (slice_index b p) (slice_index b (p + 1)) (slice_index b (p + 1 + 1)) (slice_index b (p + 1 + 1 + 1)) (slice_index b (p + 1 + 1 + 1 + 1)) (slice_index b (p + 1 + 1 + 1 + 1 + 1))
    (swapped n (slice_index b p) (slice_index b (p + 1)) (slice_index b (p + 1 + 1)) (slice_index b (p + 1 + 1 + 1)) (slice_index b (p + 1 + 1 + 1 + 1)) (slice_index b (p + 1 + 1 + 1 + 1 + 1)) 0 0 (first_digit b p 6 n (omega arith) h) (h 1 (omega arith)) (h 2 (omega arith) ∙ ap (λ x. slice_index b x) e2) (h 3 (omega arith) ∙ ap (λ x. slice_index b x) e3) (h 4 (omega arith) ∙ ap (λ x. slice_index b x) e4) (h 5 (omega arith) ∙ ap (λ x. slice_index b x) e5) (omega (arith, less)) (omega (arith, less)))
falling_digits (suc (suc (suc (suc (suc (suc (suc zero))))))) b p n some few l h =
    let less : n < 72057594037927936 = l in
    let e2 : p + 2 ≡ p + 1 + 1 = omega arith in
    let e3 : p + 3 ≡ p + 1 + 1 + 1 = omega arith in
    let e4 : p + 4 ≡ p + 1 + 1 + 1 + 1 = omega arith in
    let e5 : p + 5 ≡ p + 1 + 1 + 1 + 1 + 1 = omega arith in
    let e6 : p + 6 ≡ p + 1 + 1 + 1 + 1 + 1 + 1 = omega arith in
    top_seven (swap_bytes w64 n) (slice_index b p) (slice_index b (p + 1)) (slice_index b (p + 1 + 1)) (slice_index b (p + 1 + 1 + 1)) (slice_index b (p + 1 + 1 + 1 + 1)) (slice_index b (p + 1 + 1 + 1 + 1 + 1)) (slice_index b (p + 1 + 1 + 1 + 1 + 1 + 1))
    (swapped n (slice_index b p) (slice_index b (p + 1)) (slice_index b (p + 1 + 1)) (slice_index b (p + 1 + 1 + 1)) (slice_index b (p + 1 + 1 + 1 + 1)) (slice_index b (p + 1 + 1 + 1 + 1 + 1)) (slice_index b (p + 1 + 1 + 1 + 1 + 1 + 1)) 0 (first_digit b p 7 n (omega arith) h) (h 1 (omega arith)) (h 2 (omega arith) ∙ ap (λ x. slice_index b x) e2) (h 3 (omega arith) ∙ ap (λ x. slice_index b x) e3) (h 4 (omega arith) ∙ ap (λ x. slice_index b x) e4) (h 5 (omega arith) ∙ ap (λ x. slice_index b x) e5) (h 6 (omega arith) ∙ ap (λ x. slice_index b x) e6) (omega (arith, less)))
falling_digits (suc (suc (suc (suc (suc (suc (suc (suc zero)))))))) b p n some few l h =
    let e2 : p + 2 ≡ p + 1 + 1 = omega arith in
    let e3 : p + 3 ≡ p + 1 + 1 + 1 = omega arith in
    let e4 : p + 4 ≡ p + 1 + 1 + 1 + 1 = omega arith in
    let e5 : p + 5 ≡ p + 1 + 1 + 1 + 1 + 1 = omega arith in
    let e6 : p + 6 ≡ p + 1 + 1 + 1 + 1 + 1 + 1 = omega arith in
    let e7 : p + 7 ≡ p + 1 + 1 + 1 + 1 + 1 + 1 + 1 = omega arith in
    top_eight (swap_bytes w64 n) (slice_index b p) (slice_index b (p + 1)) (slice_index b (p + 1 + 1)) (slice_index b (p + 1 + 1 + 1)) (slice_index b (p + 1 + 1 + 1 + 1)) (slice_index b (p + 1 + 1 + 1 + 1 + 1)) (slice_index b (p + 1 + 1 + 1 + 1 + 1 + 1)) (slice_index b (p + 1 + 1 + 1 + 1 + 1 + 1 + 1))
    (swapped n (slice_index b p) (slice_index b (p + 1)) (slice_index b (p + 1 + 1)) (slice_index b (p + 1 + 1 + 1)) (slice_index b (p + 1 + 1 + 1 + 1)) (slice_index b (p + 1 + 1 + 1 + 1 + 1)) (slice_index b (p + 1 + 1 + 1 + 1 + 1 + 1)) (slice_index b (p + 1 + 1 + 1 + 1 + 1 + 1 + 1)) (first_digit b p 8 n (omega arith) h) (h 1 (omega arith)) (h 2 (omega arith) ∙ ap (λ x. slice_index b x) e2) (h 3 (omega arith) ∙ ap (λ x. slice_index b x) e3) (h 4 (omega arith) ∙ ap (λ x. slice_index b x) e4) (h 5 (omega arith) ∙ ap (λ x. slice_index b x) e5) (h 6 (omega arith) ∙ ap (λ x. slice_index b x) e6) (h 7 (omega arith) ∙ ap (λ x. slice_index b x) e7))
falling_digits (suc (suc (suc (suc (suc (suc (suc (suc (suc c))))))))) b p n some few l h = absurd (omega (arith, few))
