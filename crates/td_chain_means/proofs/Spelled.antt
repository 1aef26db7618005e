-- The number that td_chain takes from two words is the one that the bytes there spell.
use Rattle.std.proofs.Common.{◌≡◌, inl, inr, ℕ, zero, suc, ◌+◌, ◌-◌, ◌*◌, ◌/◌, ◌%◌, ◌^◌, ◌<◌, ◌≤◌, Bool, true, false, cond, nat_eq, List, length, refl, sym, ap, ◌∙◌, subst, arith}
use Rattle.std.specs.Prelude.{slice_index}
use Rattle.std.proofs.lemmas.Bool.{eqb-true}
use Rattle.std.proofs.lemmas.Bool.Decides.{leb_tells}
use Rattle.std.proofs.lemmas.Nat.{field_of, pow-add, div-mul-add, mod-mul-add}
use Rattle.std.proofs.Math.Pow.{mod-mod-pow}
use Rattle.std.proofs.Math.Nat.{div-div-eq-div-mul}
use Rattle.td_num.specs.Lists.{AreBytes}
use Rattle.td_num.specs.declared.number.Width.TheVariants.{Eight}
use Rattle.td_num.specs.Numbers.{byte_of, number_at, rising_at}
use Rattle.td_chain.specs.Chain.{joined_at, number_at as number_in}
use Rattle.td_chain_means.specs.Format.{little}
use Rattle.td_chain_means.specs.Meant.{bytes_from}

-- ---- digits in base 256
shifted : (v i j : ℕ) → byte_of (v / 2 ^ (8 * i)) j ≡ byte_of v (i + j)
shifted v i j =
    let together : v / 2 ^ (8 * i) / 2 ^ (8 * j) ≡ v / (2 ^ (8 * i) * 2 ^ (8 * j)) = div-div-eq-div-mul v (2 ^ (8 * i)) (2 ^ (8 * j)) in
    let sum : 8 * i + 8 * j ≡ 8 * (i + j) = omega arith in
    let power : 2 ^ (8 * i) * 2 ^ (8 * j) ≡ 2 ^ (8 * (i + j)) = sym (pow-add 2 (8 * i) (8 * j)) ∙ ap (λ n. 2 ^ n) sum in
    ap (λ n. n % 256) (together ∙ ap (λ n. v / n) power)

lowest : (v c j : ℕ) → j < c → byte_of (v % 2 ^ (8 * c)) j ≡ byte_of v j
lowest v c j h =
    let more : (8 * c - (8 + 8 * j)) + (8 + 8 * j) ≡ 8 * c = omega (arith, h) in
    let cut : v % 2 ^ (8 * c) % 2 ^ (8 + 8 * j) ≡ v % 2 ^ (8 + 8 * j) = subst (λ n. v % 2 ^ n % 2 ^ (8 + 8 * j) ≡ v % 2 ^ (8 + 8 * j)) more (mod-mod-pow v (8 * c - (8 + 8 * j)) (8 + 8 * j)) in
    sym (field_of (v % 2 ^ (8 * c)) 8 (8 * j)) ∙ ap (λ n. n / 2 ^ (8 * j)) cut ∙ field_of v 8 (8 * j)

low_digit : (high low j : ℕ) → low < 2 ^ (8 * 8) → j < 8 → byte_of (high * 2 ^ (8 * 8) + low) j ≡ byte_of low j
low_digit high low j l h = sym (lowest (high * 2 ^ (8 * 8) + low) 8 j h) ∙ ap (λ n. byte_of n j) (mod-mul-add high (2 ^ (8 * 8)) low l)

high_digit : (high low j : ℕ) → low < 2 ^ (8 * 8) → byte_of (high * 2 ^ (8 * 8) + low) (8 + j) ≡ byte_of high j
high_digit high low j l = sym (shifted (high * 2 ^ (8 * 8) + low) 8 j) ∙ ap (λ n. byte_of n j) (div-mul-add high (2 ^ (8 * 8)) low l)

-- a number by its digits, the first of least weight
by_digits : (b : List ℕ) (p w n : ℕ) → n < 2 ^ (8 * w) → ((j : ℕ) → j < w → byte_of n j ≡ slice_index b (p + j)) → n ≡ rising_at b p w
by_digits b p zero n l h = omega (arith, l)
by_digits b p (suc w) n l h =
    let whole : n ≡ n / 1 = omega arith in
    let here : p + 0 ≡ p = omega arith in
    let first : n % 256 ≡ slice_index b p = ap (λ x. x % 256) whole ∙ h 0 (omega arith) ∙ ap (λ x. slice_index b x) here in
    let parts : n ≡ 256 * (n / 256) + n % 256 = omega arith in
    parts ∙ ap (λ x. 256 * x + n % 256) (by_digits b (p + 1) w (n / 256) less later) ∙ ap (λ x. 256 * rising_at b (p + 1) w + x) first
  where
    less : n / 256 < 2 ^ (8 * w)
    less =
        let sum : 8 * w + 8 ≡ 8 * suc w = omega arith in
        let power : 2 ^ (8 * suc w) ≡ 2 ^ (8 * w) * 256 = ap (λ x. 2 ^ x) (sym sum) ∙ pow-add 2 (8 * w) 8 in
        omega (arith, l, power)

    later : (j : ℕ) → j < w → byte_of (n / 256) j ≡ slice_index b (p + 1 + j)
    later = λ j a.
        let one : 1 + j ≡ suc j = omega arith in
        let place : p + suc j ≡ p + 1 + j = omega arith in
        shifted n 1 j ∙ ap (λ x. byte_of n x) one ∙ h (suc j) (omega (arith, a)) ∙ ap (λ x. slice_index b x) place

-- ---- the bytes of a memory
pub are_sixteen : (m : ℕ → ℕ) (p n : ℕ) → length (bytes_from m p n) ≡ n
are_sixteen m p zero = refl
are_sixteen m p (suc n) = ap suc (are_sixteen m (p + 1) n)

pub are_bytes : (m : ℕ → ℕ) (p n : ℕ) → AreBytes (bytes_from m p n)
are_bytes m p zero i = omega arith
are_bytes m p (suc n) zero = omega arith
are_bytes m p (suc n) (suc i) = are_bytes m (p + 1) n i

byte_in : (m : ℕ → ℕ) (p n j : ℕ) → j < n → slice_index (bytes_from m p n) j ≡ byte_of (m ((p + j) / 8)) ((p + j) % 8)
byte_in m p zero j h = absurd (omega (arith, h))
byte_in m p (suc n) zero h = let e : p ≡ p + 0 = omega arith in ap (λ x. byte_of (m (x / 8)) (x % 8)) e
byte_in m p (suc n) (suc j) h =
    let e : p + 1 + j ≡ p + suc j = omega arith in byte_in m (p + 1) n j (omega (arith, h)) ∙ ap (λ x. byte_of (m (x / 8)) (x % 8)) e

-- ---- the number at a byte
module _ (m : ℕ → ℕ) (fits : (i : ℕ) → m i < 2 ^ 64) where
  small : (p : ℕ) → number_in m p < 2 ^ 64
  small p = by (nat_eq (p % 8) 0)
    where
      by : (t : Bool) → cond t (m (p / 8)) (joined_at (m (p / 8)) (m (p / 8 + 1)) (p % 8)) < 2 ^ 64
      by true = fits (p / 8)
      by false = omega arith

  joined_digit : (p j : ℕ) → j < 8 → byte_of (joined_at (m (p / 8)) (m (p / 8 + 1)) (p % 8)) j ≡ byte_of (m ((p + j) / 8)) ((p + j) % 8)
  joined_digit p j h =
      let low = m (p / 8) in
      let high = m (p / 8 + 1) in
      let k = p % 8 in
      let few = fits (p / 8) in
      let swap : low + 2 ^ 64 * high ≡ high * 2 ^ (8 * 8) + low = omega arith in
      let far : byte_of (joined_at low high k) j ≡ byte_of (high * 2 ^ (8 * 8) + low) (k + j) =
      lowest ((low + 2 ^ 64 * high) / 2 ^ (8 * k)) 8 j h ∙ shifted (low + 2 ^ 64 * high) k j ∙ ap (λ x. byte_of x (k + j)) swap in
      elim (leb_tells 8 (k + j)) [
        | inl t ↦
            let past = t.1 in
            let back : k + j ≡ 8 + (k + j - 8) = omega (arith, past) in
            let word : p / 8 + 1 ≡ (p + j) / 8 = omega (arith, past, h) in
            let byte : k + j - 8 ≡ (p + j) % 8 = omega (arith, past, h) in
            far ∙ ap (λ x. byte_of (high * 2 ^ (8 * 8) + low) x) back ∙ high_digit high low (k + j - 8) few ∙ (λ i. byte_of (m (word i)) (byte i))
        | inr f ↦
            let before = f.1 in
            let word : p / 8 ≡ (p + j) / 8 = omega (arith, before) in
            let byte : k + j ≡ (p + j) % 8 = omega (arith, before) in
            far ∙ low_digit high low (k + j) few before ∙ (λ i. byte_of (m (word i)) (byte i))
      ]

  digit : (p j : ℕ) → j < 8 → byte_of (number_in m p) j ≡ byte_of (m ((p + j) / 8)) ((p + j) % 8)
  digit p j h = by (nat_eq (p % 8) 0) refl
    where
      by : (t : Bool) → nat_eq (p % 8) 0 ≡ t → byte_of (cond t (m (p / 8)) (joined_at (m (p / 8)) (m (p / 8 + 1)) (p % 8))) j ≡ byte_of (m ((p + j) / 8)) ((p + j) % 8)
      by true e =
          let whole : p % 8 ≡ 0 = eqb-true (p % 8) 0 e in
          let word : p / 8 ≡ (p + j) / 8 = omega (arith, whole, h) in
          let byte : j ≡ (p + j) % 8 = omega (arith, whole, h) in
          (λ i. byte_of (m (word i)) (byte i))
      by false e = joined_digit p j h

  -- of bytes from a place on, the number of eight that begins so many bytes further
  pub number_spelled : (at place n o : ℕ) → at ≡ place + o → o + 8 ≤ n → number_in m at ≡ number_at (little Eight) (bytes_from m place n) o
  number_spelled at place n o e few =
      by_digits (bytes_from m place n) o 8 (number_in m at) (small at)
      (λ j h.
      let same : at + j ≡ place + (o + j) = omega (arith, e) in
      digit at j h ∙ ap (λ x. byte_of (m (x / 8)) (x % 8)) same ∙ sym (byte_in m place n (o + j) (omega (arith, h, few))))
