-- Numbers stand where their bytes stand.
use Rattle.std.proofs.Common.{◌≡◌, ℕ, zero, suc, ◌+◌, ◌-◌, ◌*◌, ◌/◌, ◌%◌, ◌^◌, ◌<◌, ◌≤◌, true, List, [], ◌∷◌, ◌++◌, length, drop, refl, sym, ap, ◌∙◌, arith, None}
use Rattle.std.specs.Prelude.{slice_index}
use Rattle.std.proofs.lemmas.Bool.{leb-true}
use Rattle.std.proofs.lemmas.Nat.{pow-add}
use Rattle.std.proofs.Math.Nat.{div-add-mod, div-eq_of_lt, div-one, div-div-eq-div-mul, pow-suc, pow-succ'}
use Rattle.td_num.specs.Numbers.{bytes_in, byte_of, rising_at, falling_on, ordered_at, number_at}
use Rattle.td_write_spells.specs.Imports.{Width, One, Two, Four, Eight, ByteOrder, LittleEndian, BigEndian, NumberType}
use Rattle.td_core.specs.Formed.{bits_bound}
use Rattle.td_write_values.specs.Bytes.{rising_bytes, falling_bytes, ordered_bytes, number_bytes, fits}

-- What stands at a place

pub drop_head : (p : ℕ) (b : List ℕ) (x : ℕ) (xs : List ℕ) → drop p b ≡ x ∷ xs → (slice_index b p ≡ x) × (drop (p + 1) b ≡ xs)
drop_head zero [] x xs e = absurd (cc)
drop_head zero (y ∷ ys) x xs e = let h : y ≡ x = cc in let t : ys ≡ xs = cc in (h, t)
drop_head (suc p) [] x xs e = absurd (cc)
drop_head (suc p) (y ∷ ys) x xs e =
    let h = drop_head p ys x xs e in
    let at : suc p + 1 ≡ suc (p + 1) = omega arith in
    (h.0, ap (λ q. drop q (y ∷ ys)) at ∙ h.1)

pub drop_past : (p : ℕ) (b s rest : List ℕ) → drop p b ≡ s ++ rest → drop (p + length s) b ≡ rest
drop_past p b [] rest e = let at : p + 0 ≡ p = omega arith in ap (λ q. drop q b) at ∙ e
drop_past p b (x ∷ s) rest e =
    let h = drop_head p b x (s ++ rest) e in
    let at : p + length (x ∷ s) ≡ p + 1 + length s = omega arith in
    ap (λ q. drop q b) at ∙ drop_past (p + 1) b s rest h.1

-- Numbers

rising_is : (w n p : ℕ) (b post : List ℕ) → n < 256 ^ w → drop p b ≡ rising_bytes w n ++ post → rising_at b p w ≡ n
rising_is zero n p b post small e = let z : 0 ≡ n = omega (arith, small) in z
rising_is (suc w) n p b post small e =
    let h = drop_head p b (n % 256) (rising_bytes w (n / 256) ++ post) e in
    let less : n / 256 < 256 ^ w = digits_left w n small in
    let later : rising_at b (p + 1) w ≡ n / 256 = rising_is w (n / 256) (p + 1) b post less h.1 in
    (λ i. 256 * later i + h.0 i) ∙ div-add-mod n 256
  where
    digits_left : (w n : ℕ) → n < 256 ^ suc w → n / 256 < 256 ^ w
    digits_left w n small = let e : 256 ^ suc w ≡ 256 ^ w * 256 = pow-suc 256 w in omega (arith, small, e)

power_is : (w : ℕ) → 2 ^ (8 * w) ≡ 256 ^ w
power_is zero = refl
power_is (suc w) =
    let e : 8 * suc w ≡ 8 + 8 * w = omega arith in
    ap (λ k. 2 ^ k) e ∙ split (8 * w) ∙ ap (λ x. 256 * x) (power_is w) ∙ grow w
  where
    split : (k : ℕ) → 2 ^ (8 + k) ≡ 256 * 2 ^ k
    split k = pow-add 2 8 k

    grow : (w : ℕ) → 256 * 256 ^ w ≡ 256 ^ suc w
    grow w = sym (pow-succ' 256 w)

digit_is : (n w : ℕ) → 256 * (n / 256 ^ suc w) + byte_of n w ≡ n / 256 ^ w
digit_is n w =
    let x = n / 256 ^ w in
    let high : n / 256 ^ suc w ≡ x / 256 = over n w in
    let low : byte_of n w ≡ x % 256 = ap (λ k. n / k % 256) (power_is w) in
    (λ i. 256 * high i + low i) ∙ div-add-mod x 256
  where
    over : (n w : ℕ) → n / 256 ^ suc w ≡ n / 256 ^ w / 256
    over n w = ap (λ k. n / k) (pow-suc 256 w) ∙ sym (div-div-eq-div-mul n (256 ^ w) 256)

falling_is : (w n p : ℕ) (b post : List ℕ) → drop p b ≡ falling_bytes w n ++ post → falling_on (n / 256 ^ w) b p w ≡ n
falling_is zero n p b post e = div-one n
falling_is (suc w) n p b post e =
    let h = drop_head p b (byte_of n w) (falling_bytes w n ++ post) e in
    let digits : 256 * (n / 256 ^ suc w) + slice_index b p ≡ n / 256 ^ w = ap (λ x. 256 * (n / 256 ^ suc w) + x) h.0 ∙ digit_is n w in
    ap (λ x. falling_on x b (p + 1) w) digits ∙ falling_is w n (p + 1) b post h.1

ordered_is : (o : ByteOrder) (w n p : ℕ) (b post : List ℕ) → n < 256 ^ w → drop p b ≡ ordered_bytes o w n ++ post → ordered_at o b p w ≡ n
ordered_is LittleEndian w n p b post small e = rising_is w n p b post small e
ordered_is BigEndian w n p b post small e =
    let none : n / 256 ^ w ≡ 0 = div-eq_of_lt small in
    ap (λ x. falling_on x b p w) (sym none) ∙ falling_is w n p b post e

fits_small : (w : Width) (n : ℕ) → n ≤ (bits_bound w None).most → n < 256 ^ bytes_in w
fits_small One n h = omega (arith, h)
fits_small Two n h = omega (arith, h)
fits_small Four n h = omega (arith, h)
fits_small Eight n h = omega (arith, h)

pub number_is : (t : NumberType) (n p : ℕ) (b post : List ℕ) → fits t None n ≡ true → drop p b ≡ number_bytes t n ++ post → number_at t b p ≡ n
number_is t n p b post h e = ordered_is t.order (bytes_in t.width) n p b post (fits_small t.width n (leb-true n (bits_bound t.width None).most h)) e

-- Sizes

some_bytes : (w : Width) → 0 < bytes_in w
some_bytes One = omega arith
some_bytes Two = omega arith
some_bytes Four = omega arith
some_bytes Eight = omega arith

pub bytes_some : (t : NumberType) → 0 < bytes_in t.width
bytes_some t = some_bytes t.width
