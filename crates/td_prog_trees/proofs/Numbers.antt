-- Numbers of one word and of two. Cited by other crates.
use Rattle.std.proofs.Common.{◌≡◌, ℕ, zero, suc, ◌+◌, ◌-◌, ◌*◌, ◌/◌, ◌%◌, ◌^◌, ◌<◌, ◌≤◌, List, length, refl, sym, ap, ◌∙◌, subst, arith, slice_index}
use Rattle.std.proofs.lemmas.Nat.{mod_below}
use Rattle.td_num.specs.Numbers.{byte_of}
use Rattle.td_stream.specs.Digits.{HasDigits}
use Rattle.td_stream.proofs.Digits.{digit_inside, shifted, joined_digits}
use Rattle.td_prog_trees.specs.Memory.{IsMemory}

pub quotient_small : (m d : ℕ) → m < 2 ^ 64 → m / d < 2 ^ 64
quotient_small m d h = grind arith

-- what is left of a word behind o bytes, and what of one is left before them
pub front_small : (v o : ℕ) → o < 8 → v < 2 ^ 64 → v / 2 ^ (8 * o) < 2 ^ (8 * (8 - o))
front_small v zero h l = omega (arith, l)
front_small v (suc zero) h l = omega (arith, l)
front_small v (suc (suc zero)) h l = omega (arith, l)
front_small v (suc (suc (suc zero))) h l = omega (arith, l)
front_small v (suc (suc (suc (suc zero)))) h l = omega (arith, l)
front_small v (suc (suc (suc (suc (suc zero))))) h l = omega (arith, l)
front_small v (suc (suc (suc (suc (suc (suc zero)))))) h l = omega (arith, l)
front_small v (suc (suc (suc (suc (suc (suc (suc zero))))))) h l = omega (arith, l)
front_small v (suc (suc (suc (suc (suc (suc (suc (suc o)))))))) h l = absurd (omega (arith, h))

pub back_is : (v o : ℕ) → o < 8 → v * 2 ^ (64 - 8 * o) % 2 ^ 64 ≡ v % 2 ^ (8 * o) * 2 ^ (8 * (8 - o))
back_is v zero h = omega arith
back_is v (suc zero) h = omega arith
back_is v (suc (suc zero)) h = omega arith
back_is v (suc (suc (suc zero))) h = omega arith
back_is v (suc (suc (suc (suc zero)))) h = omega arith
back_is v (suc (suc (suc (suc (suc zero))))) h = omega arith
back_is v (suc (suc (suc (suc (suc (suc zero)))))) h = omega arith
back_is v (suc (suc (suc (suc (suc (suc (suc zero))))))) h = omega arith
back_is v (suc (suc (suc (suc (suc (suc (suc (suc o)))))))) h = absurd (omega (arith, h))

pub sum_small : (v u o : ℕ) → o < 8 → v < 2 ^ 64 → v / 2 ^ (8 * o) + u % 2 ^ (8 * o) * 2 ^ (8 * (8 - o)) < 2 ^ 64
sum_small v u zero h l = omega (arith, l)
sum_small v u (suc zero) h l = omega (arith, l)
sum_small v u (suc (suc zero)) h l = omega (arith, l)
sum_small v u (suc (suc (suc zero))) h l = omega (arith, l)
sum_small v u (suc (suc (suc (suc zero)))) h l = omega (arith, l)
sum_small v u (suc (suc (suc (suc (suc zero))))) h l = omega (arith, l)
sum_small v u (suc (suc (suc (suc (suc (suc zero)))))) h l = omega (arith, l)
sum_small v u (suc (suc (suc (suc (suc (suc (suc zero))))))) h l = omega (arith, l)
sum_small v u (suc (suc (suc (suc (suc (suc (suc (suc o)))))))) h l = absurd (omega (arith, h))

module _ (memory : ℕ → ℕ) (message : List ℕ) (is : IsMemory memory message) where
  byte_is : (p j : ℕ) → p + j < length message → (w o : ℕ) → w ≡ (p + j) / 8 → o ≡ (p + j) % 8 → byte_of (memory w) o ≡ slice_index message (p + j)
  byte_is p j h w o e f = (λ i. byte_of (memory (e i)) (f i)) ∙ is.bytes (p + j) h

  -- the w bytes from p on, in one word, and in two
  abbrev pub one_word : ℕ → ℕ
  one_word p = memory (p / 8) / 2 ^ (8 * (p % 8))

  abbrev pub two_words : ℕ → ℕ
  two_words p = one_word p + memory (p / 8 + 1) % 2 ^ (8 * (p % 8)) * 2 ^ (8 * (8 - p % 8))

  pub one_digits : (p w : ℕ) → w ≤ 8 → p % 8 + w ≤ 8 → p + w ≤ length message → HasDigits message p w (one_word p % 2 ^ (8 * w))
  one_digits p w h k l j m =
      digit_inside (memory (p / 8)) (p % 8) w j m
      ∙ byte_is p j (omega (arith, l, m)) (p / 8) (p % 8 + j) (omega (arith, k, m)) (omega (arith, k, m))

  front_digits : (p w c : ℕ) → c ≡ 8 - p % 8 → p + c ≤ length message → HasDigits message p c (one_word p)
  front_digits p w c e l j m =
      shifted (memory (p / 8)) (p % 8) j ∙ byte_is p j (omega (arith, l, m)) (p / 8) (p % 8 + j) (omega (arith, e, m)) (omega (arith, e, m))

  one_over : (v : ℕ) → v / 2 ^ (8 * 0) ≡ v
  one_over v = omega arith

  back_digits : (p w c : ℕ) → c ≡ 8 - p % 8 → w ≤ 8 → p + w ≤ length message → HasDigits message (p + c) (w - c) (memory (p / 8 + 1) % 2 ^ (8 * (p % 8)))
  back_digits p w c e h l j m =
      let few : j < p % 8 = omega (arith, m, e, h) in
      let there : p + (c + j) ≡ p + c + j = omega arith in
      let low : 0 + j ≡ j = omega arith in
      ap (λ v. byte_of (v % 2 ^ (8 * (p % 8))) j) (sym (one_over (memory (p / 8 + 1))))
      ∙ digit_inside (memory (p / 8 + 1)) 0 (p % 8) j few
      ∙ byte_is (p + c) j (omega (arith, l, m)) (p / 8 + 1) (0 + j) (omega (arith, e, m, h)) (omega (arith, e, m, h))

  pub two_digits : (p w : ℕ) → w ≤ 8 → 8 < p % 8 + w → p + w ≤ length message → HasDigits message p w (two_words p)
  two_digits p w h k l =
      let c = 8 - p % 8 in
      let o : p % 8 < 8 = mod_below p 8 (omega arith) in
      let sum : c + (w - c) ≡ w = omega (arith, k) in
      let swap : one_word p + memory (p / 8 + 1) % 2 ^ (8 * (p % 8)) * 2 ^ (8 * c) ≡ memory (p / 8 + 1) % 2 ^ (8 * (p % 8)) * 2 ^
      (8 * c) + one_word p = omega arith in
      subst (λ n. HasDigits message p w n) (sym swap)
      (subst (λ n. HasDigits message p n (memory (p / 8 + 1) % 2 ^ (8 * (p % 8)) * 2 ^ (8 * c) + one_word p)) sum
      (joined_digits message p c (w - c) (memory (p / 8 + 1) % 2 ^ (8 * (p % 8))) (one_word p) (front_small (memory (p / 8)) (p % 8) o (is.words (p / 8)))
      (front_digits p w c refl (omega (arith, l, k))) (back_digits p w c refl h l)))

  -- of digits the lowest
  pub low_digits : (p w n : ℕ) → HasDigits message p w n → HasDigits message p w (n % 2 ^ (8 * w))
  low_digits p w n h j m =
      let low : 0 + j ≡ j = omega arith in
      ap (λ v. byte_of (v % 2 ^ (8 * w)) j) (sym (one_over n)) ∙ digit_inside n 0 w j m ∙ ap (byte_of n) low ∙ h j m
