-- Memory that holds a message in pieces: in each message word the bytes that are of it, and 0 elsewhere.
use Rattle.std.proofs.Common.{◌≡◌, ℕ, zero, suc, ◌+◌, ◌-◌, ◌*◌, ◌/◌, ◌%◌, ◌^◌, ◌<◌, ◌≤◌, inl, inr, Bool, true, false, cond, List, [], ◌∷◌, length, map, refl, sym, ap, ◌∙◌, subst, arith, slice_index}
use Rattle.std.specs.Prelude.{nat_eq}
use Rattle.std.specs.List.{All, range_with_len}
use Rattle.std.proofs.lemmas.Bool.{eq-eqb}
use Rattle.std.proofs.lemmas.Nat.{mod_below}
use Rattle.std.proofs.lemmas.List.Elements.{All-nil, All-cons}
use Rattle.std.proofs.lemmas.List.FromFn.{get_or-map-range_with_len}
use Rattle.td_num.specs.Numbers.{byte_of, rising_at}
use Rattle.td_num.specs.Lists.{AreBytes}
use Rattle.td_num.proofs.Digits.{are_bytes, rising_small}
use Rattle.td_num.proofs.Truths.{eq_is}
use Rattle.td_stream.specs.declared.stretch.Stretch.{Stretch}
use Rattle.td_stream.specs.Layouts.{words_in, length_in, place_at, word_at, offset_at}
use Rattle.td_stream.proofs.Layouts.{below_or, word_here, word_there, place_here, place_there, inner}
use Rattle.td_prog_trees.specs.Memory.{AreWords}
use Rattle.td_prog_trees.proofs.Composing.{by_cases}
use Rattle.td_prog_trees.proofs.Adversary.{digit_of}

-- two bytes of one message word stand at different places of it
pub apart : (layout : List Stretch) (p q : ℕ) → p < length_in layout → q < length_in layout → word_at layout p ≡ word_at layout q
    → offset_at layout p ≡ offset_at layout q → p ≡ q
apart [] p q a b w o = absurd (omega (arith, a))
apart (s ∷ l) p q a b w o = elim (below_or p s.size) [
  | inl pl ↦ elim (below_or q s.size) [
    | inl ql ↦
        let wp = word_here s l p pl in
        let wq = word_here s l q ql in
        let op : offset_at (s ∷ l) p ≡ (s.place + p) % 8 = ap (λ x. x % 8) (place_here s l p pl) in
        let oq : offset_at (s ∷ l) q ≡ (s.place + q) % 8 = ap (λ x. x % 8) (place_here s l q ql) in
        let same : (s.place + p) % 8 ≡ (s.place + q) % 8 = sym op ∙ o ∙ oq in
        let words : (s.place + p) / 8 - s.place / 8 ≡ (s.place + q) / 8 - s.place / 8 = sym wp ∙ w ∙ wq in
        omega (arith, same, words)
    | inr qr ↦
        let wp = word_here s l p pl in
        let wq = word_there s l q qr in
        let i = inner s p pl in
        absurd (omega (arith, w, wp, wq, i))
  ]
  | inr pr ↦ elim (below_or q s.size) [
    | inl ql ↦
        let wp = word_there s l p pr in
        let wq = word_here s l q ql in
        let i = inner s q ql in
        absurd (omega (arith, w, wp, wq, i))
    | inr qr ↦
        let wp = word_there s l p pr in
        let wq = word_there s l q qr in
        let op : offset_at (s ∷ l) p ≡ offset_at l (p - s.size) = ap (λ x. x % 8) (place_there s l p pr) in
        let oq : offset_at (s ∷ l) q ≡ offset_at l (q - s.size) = ap (λ x. x % 8) (place_there s l q qr) in
        let r = apart l (p - s.size) (q - s.size) (omega (arith, a, pr)) (omega (arith, b, qr)) (omega (arith, w, wp, wq)) (sym op ∙ o ∙ oq) in
        omega (arith, r, pr, qr)
  ]
]

module _ (layout : List Stretch) (b : List ℕ) where
  -- the byte at a place of a message word, of those before place n
  abbrev found : (n i o : ℕ) → ℕ
  found zero i o = 0
  found (suc n) i o = cond (nat_eq (word_at layout n) i) (cond (nat_eq (offset_at layout n) o) (slice_index b n) (found n i o)) (found n i o)

  found_byte : AreBytes b → (n i o : ℕ) → found n i o < 256
  found_byte h zero i o = omega arith
  found_byte h (suc n) i o =
      by_cases (λ t. cond t (cond (nat_eq (offset_at layout n) o) (slice_index b n) (found n i o)) (found n i o) < 256) (nat_eq (word_at layout n) i)
      (λ e. by_cases (λ t. cond t (slice_index b n) (found n i o) < 256) (nat_eq (offset_at layout n) o) (λ f. h n) (λ f. found_byte h n i o))
      (λ e. found_byte h n i o)

  found_is : (n j : ℕ) → n ≤ length_in layout → j < n → found n (word_at layout j) (offset_at layout j) ≡ slice_index b j
  found_is zero j l h = absurd (omega (arith, h))
  found_is (suc n) j l h = elim (below_or j n) [
    | inl less ↦
        let rest = found_is n j (omega (arith, l)) less in
        by_cases
        (λ t. cond t (cond (nat_eq (offset_at layout n) (offset_at layout j)) (slice_index b n) (found n (word_at layout j) (offset_at layout j)))
        (found n (word_at layout j) (offset_at layout j)) ≡ slice_index b j)
        (nat_eq (word_at layout n) (word_at layout j))
        (λ e. by_cases (λ t. cond t (slice_index b n) (found n (word_at layout j) (offset_at layout j)) ≡ slice_index b j)
        (nat_eq (offset_at layout n) (offset_at layout j))
        (λ f. ap (slice_index b)
        (apart layout n j (omega (arith, l)) (omega (arith, l, less)) (eq_is (word_at layout n) (word_at layout j) e)
        (eq_is (offset_at layout n) (offset_at layout j) f)))
        (λ f. rest)) (λ e. rest)
    | inr more ↦
        let same : j ≡ n = omega (arith, h, more) in
        let rest : ℕ = found n (word_at layout n) (offset_at layout n) in
        subst (λ k. found (suc n) (word_at layout k) (offset_at layout k) ≡ slice_index b k) (sym same)
        (ap (λ t. cond t (cond (nat_eq (offset_at layout n) (offset_at layout n)) (slice_index b n) rest) rest)
        (eq-eqb (word_at layout n) (word_at layout n) refl)
        ∙ ap (λ t. cond t (slice_index b n) rest) (eq-eqb (offset_at layout n) (offset_at layout n) refl))
  ]

  -- the bytes of a message word
  abbrev bytes_at : ℕ → List ℕ
  bytes_at i = map (λ o. found (length_in layout) i o) (range_with_len 0 8)

  all_found : AreBytes b → (i from n : ℕ) → All (λ x. x < 256) (map (λ o. found (length_in layout) i o) (range_with_len from n))
  all_found h i from zero = All-nil (λ x. x < 256)
  all_found h i from (suc n) =
      All-cons (λ x. x < 256) (found (length_in layout) i from) (map (λ o. found (length_in layout) i o) (range_with_len (from + 1) n))
      (found_byte h (length_in layout) i from) (all_found h i (from + 1) n)

  abbrev pub memory_in : ℕ → ℕ
  memory_in i = rising_at (bytes_at i) 0 8

  pub memory_in_wordy : AreBytes b → AreWords memory_in
  memory_in_wordy h i = rising_small (bytes_at i) (are_bytes (bytes_at i) (all_found h i 0 8)) 0 8

  pub memory_in_bytes : AreBytes b → length b ≡ length_in layout → (j : ℕ) → j < length b
      → byte_of (memory_in (word_at layout j)) (offset_at layout j) ≡ slice_index b j
  memory_in_bytes h e j l =
      let i = word_at layout j in
      let o = offset_at layout j in
      let few : o < 8 = mod_below (place_at layout j) 8 (omega arith) in
      let at : slice_index (bytes_at i) (0 + o) ≡ found (length_in layout) i o =
      get_or-map-range_with_len (λ k. found (length_in layout) i k) 0 8 (0 + o) o 0 (omega (arith, few)) (omega arith) in
      digit_of (bytes_at i) (are_bytes (bytes_at i) (all_found h i 0 8)) 8 0 o few ∙ at
      ∙ found_is (length_in layout) j (omega arith) (omega (arith, l, e))
