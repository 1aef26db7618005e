-- The bytes of the number that bytes spell. Cited by other crates.
use Rattle.std.proofs.Common.{◌≡◌, ℕ, zero, suc, ◌+◌, ◌*◌, ◌/◌, ◌%◌, ◌^◌, ◌<◌, ◌≤◌, List, length, slice_index, [], ◌∷◌, refl, sym, ap, ◌∙◌, arith, add-zero}
use Rattle.std.proofs.Math.Nat.{div-div-eq-div-mul}
use Rattle.std.proofs.Math.Pow.{pow_mono}
use Rattle.std.proofs.lemmas.Grind.{same_number_lists}
use Rattle.td_num.specs.Lists.{AreBytes}
use Rattle.td_num.specs.Numbers.{byte_of, byte_at, rising_at}
use Rattle.td_job.specs.Words.{IsFilled}
use Rattle.td_num.proofs.Digits.{power_of_bytes as power, rising_small}

further : (word k : ℕ) → word / 2 ^ (8 * suc k) ≡ word / 256 / 2 ^ (8 * k)
further word k = rw power (sym (div-div-eq-div-mul word 256 (2 ^ (8 * k))))

joined : (rest low : ℕ) → low < 256 → (256 * rest + low) / 256 ≡ rest
joined rest low small = omega arith

pub byte-rising : (bytes : List ℕ) → AreBytes bytes → (p w k : ℕ) → k < w → byte_of (rising_at bytes p w) k ≡ slice_index bytes (p + k)
byte-rising bytes small p zero k within = absurd (omega arith)
byte-rising bytes small p (suc w) zero within =
    let low = small p in
    rw add-zero (omega arith)
byte-rising bytes small p (suc w) (suc k) within =
    let rest = byte-rising bytes small (p + 1) w k (omega arith) in
    let place : p + suc k ≡ p + 1 + k = omega arith in
    let over = further (256 * rising_at bytes (p + 1) w + slice_index bytes p) k in
    let under = joined (rising_at bytes (p + 1) w) (slice_index bytes p) (small p) in
    rw (over, under, place) rest

-- numbers of the same bytes are the same
pub same_by_bytes : (n v w : ℕ) → v < 2 ^ (8 * n) → w < 2 ^ (8 * n) → ((k : ℕ) → k < n → byte_of v k ≡ byte_of w k) → v ≡ w
same_by_bytes zero v w hv hw same = omega arith
same_by_bytes (suc n) v w hv hw same =
    let hv' : v < 256 * 2 ^ (8 * n) = rw power at hv in
    let hw' : w < 256 * 2 ^ (8 * n) = rw power at hw in
    let first : v / 1 % 256 ≡ w / 1 % 256 = same 0 (omega arith) in
    let high : v / 256 ≡ w / 256 = same_by_bytes n (v / 256) (w / 256) (omega arith) (omega arith) (λ k h. rw (← further v k, ← further w k) (same (suc k) (omega arith))) in
    omega arith

place_of : (i k : ℕ) → k < 8 → ((8 * i + k) / 8 ≡ i) × ((8 * i + k) % 8 ≡ k)
place_of i k small = (omega arith, omega arith)

pub byte_there : (words : List ℕ) (i k : ℕ) → k < 8 → byte_at words (8 * i + k) ≡ byte_of (slice_index words i) k
byte_there words i k small = let at = place_of i k small in rw (at.0, at.1) refl

-- bytes fill one list of words alone
pub filled_once : (bytes : List ℕ) (many : ℕ) (a b : List ℕ) → IsFilled bytes many a → IsFilled bytes many b → a ≡ b
filled_once bytes many a b ha hb =
    let long : length a ≡ length b = ha.count ∙ sym hb.count in
    same_number_lists a b long (λ i h.
    let within : i < length b = omega arith in
    same_by_bytes 8 (slice_index a i) (slice_index b i) (ha.fits i h) (hb.fits i within) (λ k small.
    sym (byte_there a i k small) ∙ ha.same (8 * i + k) (omega arith) ∙ sym (hb.same (8 * i + k) (omega arith)) ∙ byte_there b i k small))

-- words that are the numbers of eight bytes each are filled
pub filled_by : (bytes : List ℕ) (many : ℕ) (words : List ℕ) → AreBytes bytes → length words ≡ many
    → ((i : ℕ) → i < length words → slice_index words i ≡ rising_at bytes (8 * i) 8) → IsFilled bytes many words
filled_by bytes many words small count each = record {
  count = count;
  fits = λ i h. rw (each i h) (rising_small bytes small (8 * i) 8);
  same = λ j h.
      let within : j / 8 < length words = omega arith in
      let whole : 8 * (j / 8) + j % 8 ≡ j = omega arith in
      rw (each (j / 8) within) (byte-rising bytes small (8 * (j / 8)) 8 (j % 8) (omega arith) ∙ ap (slice_index bytes) whole);
}

pub rising_step : (bytes : List ℕ) (p q r w v : ℕ) → q ≡ p + 1 → r ≡ p → v ≡ suc w → 256 * rising_at bytes q w + slice_index bytes r ≡ rising_at bytes p v
rising_step bytes p q r w v hq hr hv = rw (hq, hr, hv) refl

pub rising_fits : (bytes : List ℕ) → AreBytes bytes → (p w : ℕ) → w < 8 → rising_at bytes p w < 2 ^ 56
rising_fits bytes small p w h =
    let least = rising_small bytes small p w in
    let eight : 8 * w ≤ 56 = omega arith in
    let most = pow_mono eight in
    omega arith

-- the numbers of eight bytes each, this many, from a place on
built : List ℕ → ℕ → ℕ → List ℕ
built bytes p zero = []
built bytes p (suc n) = rising_at bytes p 8 ∷ built bytes (p + 8) n

built_length : (bytes : List ℕ) (p n : ℕ) → length (built bytes p n) ≡ n
unfolding built
built_length bytes p zero = refl
built_length bytes p (suc n) = ap suc (built_length bytes (p + 8) n)

built_index : (bytes : List ℕ) (p n i : ℕ) → i < n → slice_index (built bytes p n) i ≡ rising_at bytes (p + 8 * i) 8
unfolding built
built_index bytes p zero i h = absurd (omega arith)
built_index bytes p (suc n) zero h = ap (λ q. rising_at bytes q 8) (let same : p ≡ p + 8 * 0 = omega arith in same)
built_index bytes p (suc n) (suc i) h =
    built_index bytes (p + 8) n i (omega arith) ∙ ap (λ q. rising_at bytes q 8) (let same : p + 8 + 8 * i ≡ p + 8 * suc i = omega arith in same)

-- bytes fill as many words as are asked for
pub filled : (bytes : List ℕ) (many : ℕ) → AreBytes bytes → (words : List ℕ) × IsFilled bytes many words
filled bytes many small =
    let words = built bytes 0 many in
    let count = built_length bytes 0 many in
    (words, filled_by bytes many words small count (λ i h. built_index bytes 0 many i (omega (arith, h, count)) ∙ ap (λ q. rising_at bytes q 8) (let same : 0 + 8 * i ≡ 8 * i = omega arith in same)))
