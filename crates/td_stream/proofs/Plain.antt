-- Laws of layouts. Cited by other crates.
use Rattle.std.proofs.Common.{◌≡◌, ℕ, suc, ◌+◌, ◌-◌, ◌*◌, ◌/◌, ◌%◌, ◌<◌, ◌≤◌, ◌⊎◌, inl, inr, List, [], ◌∷◌, length, refl, sym, ap, ◌∙◌, subst, arith, slice_index, cond}
use Rattle.std.specs.Prelude.{◌↔◌}
use Rattle.std.specs.List.{All}
use Rattle.std.proofs.lemmas.Bool.{le-leb, lt-leb}
use Rattle.std.proofs.lemmas.List.Elements.{All-weaker, All-nil, All-cons}
use Rattle.td_num.specs.Numbers.{byte_of}
use Rattle.td_stream.specs.declared.load.Load.{Load}
use Rattle.td_stream.specs.declared.stretch.Stretch.{Stretch}
use Rattle.td_stream.specs.Layouts.{words_in, length_in, count_in, place_at, offset_at, word_at, stretch_at, pair_at, plain, AreWithin}
use Rattle.td_stream.specs.Loads.{Agrees, Carries}
use Rattle.td_stream.specs.Laws.{AgreesPlain, IsPlainMessage, Before, IsPair}
use Rattle.td_stream.proofs.Layouts.{below_or, words_some, words_none, word_here, word_there, place_here, place_there, pair_here, pair_there, inner}

-- one stretch at the front

plain_count : (n : ℕ) → count_in (plain n) ≡ (n + 7) / 8
plain_count n = elim (below_or 0 n) [ inl some ↦ let e = words_some (record { place = 0; size = n }) some in omega (arith, e, some) | inr none ↦ let e = words_none (record { place = 0; size = n }) (omega (arith, none)) in omega (arith, e, none) ]

plain_word : (n j : ℕ) → j < n → word_at (plain n) j ≡ j / 8
plain_word n j h = let e = word_here (record { place = 0; size = n }) [] j h in omega (arith, e)

plain_offset : (n j : ℕ) → j < n → offset_at (plain n) j ≡ j % 8
plain_offset n j h = let e = place_here (record { place = 0; size = n }) [] j h in omega (arith, e)

plain_pair : (n i : ℕ) → i < count_in (plain n) → pair_at (plain n) i ≡ (0, i)
plain_pair n i h =
    let few : i < words_in (record { place = 0; size = n }) = omega (arith, h) in
    let e : 0 / 8 + i ≡ i = omega arith in
    pair_here (record { place = 0; size = n }) [] i few ∙ ap (λ m. (0, m)) e

pub plain_is : (n : ℕ) → IsPlainMessage n
plain_is n = record {
  size = omega arith;
  count = plain_count n;
  word = plain_word n;
  offset = plain_offset n;
  pair = plain_pair n;
}

agrees_in : (n : ℕ) (b : List ℕ) (l : Load) → length b ≡ n → Agrees (plain n) b l → AgreesPlain b l
agrees_in n b l size h = λ k small inside.
    let j = 8 * l.word + k in
    let lt : j < n = omega (arith, inside, size) in
    let word : j / 8 ≡ l.word = omega arith in
    let byte : j % 8 ≡ k = omega arith in
    h j inside (plain_word n j lt ∙ word) ∙ ap (byte_of l.value) (plain_offset n j lt ∙ byte)

agrees_out : (n : ℕ) (b : List ℕ) (l : Load) → length b ≡ n → AgreesPlain b l → Agrees (plain n) b l
agrees_out n b l size h = λ j inside word.
    let lt : j < n = omega (arith, inside, size) in
    let at : j / 8 ≡ l.word = sym (plain_word n j lt) ∙ word in
    let same : 8 * l.word + j % 8 ≡ j = omega (arith, at) in
    ap (slice_index b) (sym same) ∙ h (j % 8) (omega arith) (omega (arith, same, inside)) ∙ ap (byte_of l.value) (sym (plain_offset n j lt))

pub plain_carries : (n : ℕ) (b : List ℕ) (loads : List Load) → Carries (plain n) b loads ↔ ((length b ≡ n) × All (AgreesPlain b) loads)
plain_carries n b loads = (
  (λ c. let size : length b ≡ n = let e = c.size in omega (arith, e) in (size, All-weaker (Agrees (plain n) b) (AgreesPlain b) (λ l h. agrees_in n b l size h) loads c.agree)),
  (λ c. record { size = let e = c.0 in omega (arith, e); agree = All-weaker (AgreesPlain b) (Agrees (plain n) b) (λ l h. agrees_out n b l c.0 h) loads c.1 }),
)

-- numbers and pairs

stretch_here : (s : Stretch) (l : List Stretch) (j : ℕ) → j < s.size → stretch_at (s ∷ l) j ≡ 0
stretch_here s l j h = ap (λ v. cond v (suc (stretch_at l (j - s.size))) 0) (lt-leb s.size j h)

stretch_there : (s : Stretch) (l : List Stretch) (j : ℕ) → s.size ≤ j → stretch_at (s ∷ l) j ≡ suc (stretch_at l (j - s.size))
stretch_there s l j h = ap (λ v. cond v (suc (stretch_at l (j - s.size))) 0) (le-leb s.size j h)

pub pair_of_byte : (l : List Stretch) (j : ℕ) → j < length_in l → pair_at l (word_at l j) ≡ (stretch_at l j, place_at l j / 8)
pair_of_byte [] j h = absurd (omega (arith, h))
pair_of_byte (s ∷ l) j h = elim (below_or j s.size) [
  | inl here ↦
      let w : word_at (s ∷ l) j ≡ (s.place + j) / 8 - s.place / 8 = word_here s l j here in
      let few : (s.place + j) / 8 - s.place / 8 < words_in s = inner s j here in
      let at : s.place / 8 + ((s.place + j) / 8 - s.place / 8) ≡ place_at (s ∷ l) j / 8 = let e = place_here s l j here in omega (arith, e) in
      ap (pair_at (s ∷ l)) w ∙ (pair_here s l ((s.place + j) / 8 - s.place / 8) few ∙ (λ i. (sym (stretch_here s l j here) i, at i)))
  | inr there ↦
      let m = j - s.size in
      let w : word_at (s ∷ l) j ≡ words_in s + word_at l m = word_there s l j there in
      let less : words_in s + word_at l m - words_in s ≡ word_at l m = omega arith in
      let r : pair_at l (words_in s + word_at l m - words_in s) ≡ (stretch_at l m, place_at l m / 8) = ap (pair_at l) less ∙ pair_of_byte l m (omega (arith, h, there)) in
      ap (pair_at (s ∷ l)) w ∙ (pair_there s l (words_in s + word_at l m) (omega arith)
      ∙ (λ i. ((ap (λ (x : ℕ × ℕ). suc x.0) r ∙ sym (stretch_there s l j there)) i, (ap (λ (x : ℕ × ℕ). x.1) r ∙ ap (λ p. p / 8) (sym (place_there s l j there))) i)))
]

pub byte_of_word : (l : List Stretch) (n : ℕ) → n < count_in l → (j : ℕ) × (j < length_in l) × (word_at l j ≡ n)
byte_of_word [] n h = absurd (omega (arith, h))
byte_of_word (s ∷ l) n h = elim (below_or n (words_in s)) [
  | inl here ↦ first here (below_or 0 s.size) (below_or 0 n)
  | inr there ↦
      let r = byte_of_word l (n - words_in s) (omega (arith, h, there)) in
      let far : s.size ≤ s.size + r.0 = omega arith in
      let less : s.size + r.0 - s.size ≡ r.0 = omega arith in
      (s.size + r.0, (let lt = r.1 in omega (arith, lt)), word_there s l (s.size + r.0) far ∙ (let w = ap (word_at l) less ∙ r.2 in omega (arith, w, there)))
]
  where
    first : n < words_in s → (0 < s.size) ⊎ (s.size ≤ 0) → (0 < n) ⊎ (n ≤ 0) → (j : ℕ) × (j < length_in (s ∷ l)) × (word_at (s ∷ l) j ≡ n)
    first here (inr none) z = let e = words_none s (omega (arith, none)) in absurd (omega (arith, e, here))
    first here (inl some) (inr z) = let w = word_here s l 0 some in (0, omega (arith, some), omega (arith, w, z))
    first here (inl some) (inl z) =
        let e = words_some s some in
        let j = 8 * (s.place / 8 + n) - s.place in
        let lt : j < s.size = omega (arith, e, here, some, z) in
        let w = word_here s l j lt in
        (j, omega (arith, lt), omega (arith, w, z))

-- message words rise by stretch, and then by word of the buffer
pub pairs_rise : (l : List Stretch) (n m : ℕ) → n < m → m < count_in l → Before (pair_at l n) (pair_at l m)
pairs_rise [] n m lt h = absurd (omega (arith, h))
pairs_rise (s ∷ l) n m lt h = elim (below_or m (words_in s)) [
  | inl b ↦
      let x = pair_here s l n (omega (arith, lt, b)) in
      let y = pair_here s l m b in
      let up : s.place / 8 + n < s.place / 8 + m = omega (arith, lt) in
      subst (λ (p : (ℕ × ℕ) × (ℕ × ℕ)). Before p.0 p.1) (λ i. (sym x i, sym y i)) (inr (refl, up))
  | inr b ↦
      let y = pair_there s l m b in
      elim (below_or n (words_in s)) [
        | inl a ↦
            let x = pair_here s l n a in
            let up : 0 < suc (pair_at l (m - words_in s)).0 = omega arith in
            subst (λ (p : (ℕ × ℕ) × (ℕ × ℕ)). Before p.0 p.1) (λ i. (sym x i, sym y i)) (inl up)
        | inr a ↦
            let x = pair_there s l n a in
            let r = pairs_rise l (n - words_in s) (m - words_in s) (omega (arith, lt, a)) (omega (arith, h, b)) in
            subst (λ (p : (ℕ × ℕ) × (ℕ × ℕ)). Before p.0 p.1) (λ i. (sym x i, sym y i)) (further (pair_at l (n - words_in s)) (pair_at l (m - words_in s)) r)
      ]
]
  where
    further : (x y : ℕ × ℕ) → Before x y → Before (suc x.0, x.1) (suc y.0, y.1)
    further x y (inl lt) = inl (omega (arith, lt))
    further x y (inr e) = inr (ap suc e.0, e.1)

-- bytes that begin at a word
pub slot_within : (n base size : ℕ) → base + (size + 7) / 8 ≤ n → AreWithin n ((record { place = 8 * base; size = size }) ∷ [])
slot_within n base size h = All-cons (λ (s : Stretch). s.place + s.size ≤ 8 * n) (record { place = 8 * base; size = size }) [] (let le : 8 * base + size ≤ 8 * n = omega (arith, h) in le) (All-nil (λ (s : Stretch). s.place + s.size ≤ 8 * n))

pub slot_count : (base size : ℕ) → count_in ((record { place = 8 * base; size = size }) ∷ []) ≡ (size + 7) / 8
slot_count base size = elim (below_or 0 size) [
  | inl some ↦ let e = words_some (record { place = 8 * base; size = size }) some in omega (arith, e, some)
  | inr none ↦ let e = words_none (record { place = 8 * base; size = size }) (omega (arith, none)) in omega (arith, e, none)
]

pub pairs_are : (l : List Stretch) → IsPair l
pairs_are l = record { byte = pair_of_byte l; word = byte_of_word l; rises = pairs_rise l }
