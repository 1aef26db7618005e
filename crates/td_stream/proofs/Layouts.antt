-- Places and words of a layout. Cited by other crates.
use Rattle.std.proofs.Common.{◌≡◌, ℕ, zero, suc, ◌+◌, ◌-◌, ◌*◌, ◌/◌, ◌%◌, ◌^◌, ◌<◌, ◌≤◌, min, ◌⊎◌, inl, inr, cond, List, [], ◌∷◌, ◌++◌, length, refl, sym, ap, ◌∙◌, arith, get_or}
use Rattle.std.specs.Prelude.{map}
use Rattle.std.proofs.lemmas.List.{get_or-map, length-map}
use Rattle.std.proofs.lemmas.Bool.{ne_eqb, eq-eqb, le-leb, lt-leb}
use Rattle.std.proofs.lemmas.Bool.Decides.{leb_tells}
use Rattle.td_stream.specs.declared.stretch.Stretch.{Stretch}
use Rattle.td_stream.specs.declared.layout.Part.{Part}
use Rattle.td_stream.specs.Layouts.{words_in, length_in, count_in, place_at, offset_at, word_at, pair_at}
use Rattle.td_stream.specs.Parts.{stretch_of, IsSound, AreLaid, IsPart, start_of, first_of}

pub below_or : (a b : ℕ) → (a < b) ⊎ (b ≤ a)
below_or a b = elim (leb_tells b a) [ inl t ↦ inr t.1 | inr f ↦ inl f.1 ]

min_cases : (a b : ℕ) → (min a b ≡ a) ⊎ (min a b ≡ b)
min_cases a b = elim (below_or a b) [ inl h ↦ inl (grind (arith, h)) | inr h ↦ inr (grind (arith, h)) ]

-- one stretch

pub words_some : (s : Stretch) → 0 < s.size → words_in s ≡ suc ((s.place + s.size - 1) / 8 - s.place / 8)
words_some s h = ap (λ v. cond v 0 (suc ((s.place + s.size - 1) / 8 - s.place / 8))) (ne_eqb s.size 0 (λ e. omega (arith, e, h)))

pub words_none : (s : Stretch) → s.size ≡ 0 → words_in s ≡ 0
words_none s h = ap (λ v. cond v 0 (suc ((s.place + s.size - 1) / 8 - s.place / 8))) (eq-eqb s.size 0 h)

pub word_here : (s : Stretch) (l : List Stretch) (j : ℕ) → j < s.size → word_at (s ∷ l) j ≡ (s.place + j) / 8 - s.place / 8
word_here s l j h = ap (λ v. cond v (words_in s + word_at l (j - s.size)) ((s.place + j) / 8 - s.place / 8)) (lt-leb s.size j h)

pub word_there : (s : Stretch) (l : List Stretch) (j : ℕ) → s.size ≤ j → word_at (s ∷ l) j ≡ words_in s + word_at l (j - s.size)
word_there s l j h = ap (λ v. cond v (words_in s + word_at l (j - s.size)) ((s.place + j) / 8 - s.place / 8)) (le-leb s.size j h)

pub place_here : (s : Stretch) (l : List Stretch) (j : ℕ) → j < s.size → place_at (s ∷ l) j ≡ s.place + j
place_here s l j h = ap (λ v. cond v (place_at l (j - s.size)) (s.place + j)) (lt-leb s.size j h)

pub place_there : (s : Stretch) (l : List Stretch) (j : ℕ) → s.size ≤ j → place_at (s ∷ l) j ≡ place_at l (j - s.size)
place_there s l j h = ap (λ v. cond v (place_at l (j - s.size)) (s.place + j)) (le-leb s.size j h)

-- a word of the stretch is below its count of words
pub inner : (s : Stretch) (j : ℕ) → j < s.size → (s.place + j) / 8 - s.place / 8 < words_in s
inner s j h = let e = words_some s (omega (arith, h)) in omega (arith, h, e)

-- the whole layout

-- words rise with the places of bytes
pub word_rises : (l : List Stretch) (p q : ℕ) → p ≤ q → word_at l p ≤ word_at l q
word_rises [] p q h = omega arith
word_rises (s ∷ l) p q h = elim (below_or q s.size) [
  | inl b ↦ let x = word_here s l p (omega (arith, h, b)) in let y = word_here s l q b in omega (arith, x, y, h)
  | inr b ↦ let y = word_there s l q b in elim (below_or p s.size) [
    | inl a ↦ let x = word_here s l p a in let i = inner s p a in omega (arith, x, y, i)
    | inr a ↦ let x = word_there s l p a in let r = word_rises l (p - s.size) (q - s.size) (omega (arith, h)) in omega (arith, x, y, r)
  ]
]

-- a byte of the message stands in a word of the message
pub word_inside : (l : List Stretch) (p : ℕ) → p < length_in l → word_at l p < count_in l
word_inside [] p h = absurd (omega (arith, h))
word_inside (s ∷ l) p h = elim (below_or p s.size) [
  | inl a ↦ let x = word_here s l p a in let i = inner s p a in omega (arith, x, i)
  | inr a ↦ let x = word_there s l p a in let r = word_inside l (p - s.size) (omega (arith, h, a)) in omega (arith, x, r)
]

-- stretch k of it

pub start_more : (l : List Stretch) (k : ℕ) (d : Stretch) → k < length l → start_of l (k + 1) ≡ start_of l k + (get_or l k d).size
start_more [] k d h = absurd (omega (arith, h))
start_more (s ∷ l) zero d h = omega arith
start_more (s ∷ l) (suc k) d h = let r = start_more l k d (omega (arith, h)) in let e : suc k + 1 ≡ suc (k + 1) = omega arith in ap (start_of (s ∷ l)) e ∙ omega (arith, r)

pub first_more : (l : List Stretch) (k : ℕ) (d : Stretch) → k < length l → first_of l (k + 1) ≡ first_of l k + words_in (get_or l k d)
first_more [] k d h = absurd (omega (arith, h))
first_more (s ∷ l) zero d h = omega arith
first_more (s ∷ l) (suc k) d h = let r = first_more l k d (omega (arith, h)) in let e : suc k + 1 ≡ suc (k + 1) = omega arith in ap (first_of (s ∷ l)) e ∙ omega (arith, r)

-- a byte of stretch k
pub word_in : (l : List Stretch) (k : ℕ) (d : Stretch) (p : ℕ) → k < length l → start_of l k ≤ p → p < start_of l k + (get_or l k d).size
    → (word_at l p ≡ first_of l k + (((get_or l k d).place + (p - start_of l k)) / 8 - (get_or l k d).place / 8)) × (place_at l p ≡ (get_or l k d).place + (p - start_of l k))
word_in [] k d p h a b = absurd (omega (arith, h))
word_in (s ∷ l) zero d p h a b =
    let x = word_here s l p (omega (arith, b)) in
    let y = place_here s l p (omega (arith, b)) in
    (omega (arith, x), omega (arith, y))
word_in (s ∷ l) (suc k) d p h a b =
    let far : s.size ≤ p = omega (arith, a) in
    let x = word_there s l p far in
    let y = place_there s l p far in
    let r = word_in l k d (p - s.size) (omega (arith, h)) (omega (arith, a)) (omega (arith, b, far)) in
    let e : p - s.size - start_of l k ≡ p - (s.size + start_of l k) = omega arith in (
      x ∙ ap (λ n. words_in s + n) r.0 ∙ ap (λ n. words_in s + (first_of l k + (((get_or l k d).place + n) / 8 - (get_or l k d).place / 8))) e ∙ omega arith,
      y ∙ r.1 ∙ ap (λ n. (get_or l k d).place + n) e,
    )

-- bytes after stretch k stand in later words
pub word_past : (l : List Stretch) (k : ℕ) (p : ℕ) → start_of l k ≤ p → first_of l k ≤ word_at l p
word_past [] k p a = nothing k
  where
    nothing : (k : ℕ) → first_of [] k ≤ 0
    nothing zero = omega arith
    nothing (suc k) = omega arith
word_past (s ∷ l) zero p a = omega arith
word_past (s ∷ l) (suc k) p a =
    let far : s.size ≤ p = omega (arith, a) in
    let x = word_there s l p far in
    let r = word_past l k (p - s.size) (omega (arith, a)) in
    omega (arith, x, r)

-- past the last stretch there is no byte and no word

pub start_all : (l : List Stretch) (k : ℕ) → length l ≤ k → start_of l k ≡ length_in l
start_all [] zero h = refl
start_all [] (suc k) h = refl
start_all (s ∷ l) zero h = absurd (omega (arith, h))
start_all (s ∷ l) (suc k) h = ap (λ n. s.size + n) (start_all l k (omega (arith, h)))

pub first_all : (l : List Stretch) (k : ℕ) → length l ≤ k → first_of l k ≡ count_in l
first_all [] zero h = refl
first_all [] (suc k) h = refl
first_all (s ∷ l) zero h = absurd (omega (arith, h))
first_all (s ∷ l) (suc k) h = ap (λ n. words_in s + n) (first_all l k (omega (arith, h)))

pub some_stretch : (l : List Stretch) (k p : ℕ) → start_of l k ≤ p → p < length_in l → k < length l
some_stretch l k p a b = elim (below_or k (length l)) [ inl h ↦ h | inr h ↦ let e = start_all l k h in absurd (omega (arith, e, a, b)) ]

pub some_word : (l : List Stretch) (k n : ℕ) → first_of l k ≤ n → n < count_in l → k < length l
some_word l k n a b = elim (below_or k (length l)) [ inl h ↦ h | inr h ↦ let e = first_all l k h in absurd (omega (arith, e, a, b)) ]

-- message words

pub pair_here : (s : Stretch) (l : List Stretch) (n : ℕ) → n < words_in s → pair_at (s ∷ l) n ≡ (0, s.place / 8 + n)
pair_here s l n h = ap (λ v. cond v (suc (pair_at l (n - words_in s)).0, (pair_at l (n - words_in s)).1) (0, s.place / 8 + n)) (lt-leb (words_in s) n h)

pub pair_there : (s : Stretch) (l : List Stretch) (n : ℕ) → words_in s ≤ n → pair_at (s ∷ l) n ≡ (suc (pair_at l (n - words_in s)).0, (pair_at l (n - words_in s)).1)
pair_there s l n h = ap (λ v. cond v (suc (pair_at l (n - words_in s)).0, (pair_at l (n - words_in s)).1) (0, s.place / 8 + n)) (le-leb (words_in s) n h)

-- message word n, where it is of stretch k
pub pair_in : (l : List Stretch) (k : ℕ) (d : Stretch) (n : ℕ) → k < length l → first_of l k ≤ n → n < first_of l k + words_in (get_or l k d)
    → pair_at l n ≡ (k, (get_or l k d).place / 8 + (n - first_of l k))
pair_in [] k d n h a b = absurd (omega (arith, h))
pair_in (s ∷ l) zero d n h a b =
    let e : n ≡ n - 0 = omega arith in
    let f : (0, s.place / 8 + n) ≡ (0, s.place / 8 + (n - 0)) = ap (λ m. (0, s.place / 8 + m)) e in
    pair_here s l n (omega (arith, b)) ∙ f
pair_in (s ∷ l) (suc k) d n h a b =
    let far : words_in s ≤ n = omega (arith, a) in
    let m = n - words_in s in
    let first = first_of l k in
    let place = (get_or l k d).place / 8 in
    let r : pair_at l m ≡ (k, place + (m - first)) = pair_in l k d m (omega (arith, h)) (omega (arith, a)) (omega (arith, b, far)) in
    let e : m - first ≡ n - (words_in s + first) = omega arith in
    let f : (suc (pair_at l m).0, (pair_at l m).1) ≡ (suc k, place + (m - first)) = λ i. (suc (r i).0, (r i).1) in
    let g : (suc k, place + (m - first)) ≡ (suc k, place + (n - (words_in s + first))) = ap (λ x. (suc k, place + x)) e in
    pair_there s l n far ∙ (f ∙ g)

-- parts that are laid out

laid_at : (ps : List Part) (a b k : ℕ) (d : Part) → AreLaid a b ps → k < length ps
    → ((get_or ps k d).start ≡ a + start_of (map stretch_of ps) k) × ((get_or ps k d).first ≡ b + first_of (map stretch_of ps) k) × IsSound (get_or ps k d)
laid_at [] a b k d h lt = absurd (omega (arith, lt))
laid_at (p ∷ ps) a b zero d h lt = (omega (arith, h.0), omega (arith, h.1), h.2)
laid_at (p ∷ ps) a b (suc k) d h lt =
    let r = laid_at ps p.end p.after k d h.3 (omega (arith, lt)) in
    let s = h.2 in
    let some = s.some in
    let words = s.words in
    (omega (arith, r.0, h.0, some), omega (arith, r.1, h.1, words), r.2)

pub part_is : (ps : List Part) (k : ℕ) (d : Part) → AreLaid 0 0 ps → length ps ≤ 1024 → k < length ps → IsPart (map stretch_of ps) k (get_or ps k d)
part_is ps k d h few lt =
    let p = get_or ps k d in
    let l = map stretch_of ps in
    let r = laid_at ps 0 0 k d h lt in
    let long : k < length l = omega (arith, lt, length-map ps stretch_of) in
    let is : (e : Stretch) → get_or l k e ≡ stretch_of p = λ e. get_or-map stretch_of ps k d e lt in
    let some = r.2.some in
    let words = r.2.words in
    let start = start_more l k (stretch_of d) long ∙ ap (λ (s : Stretch). start_of l k + s.size) (is (stretch_of d)) in
    let first = first_more l k (stretch_of d) long ∙ ap (λ (s : Stretch). first_of l k + words_in s) (is (stretch_of d)) in
    record {
      sound = r.2;
      few = omega (arith, few, length-map ps stretch_of);
      is = is;
      start = omega (arith, r.0);
      end = omega (arith, r.0, start, some);
      first = omega (arith, r.1);
      after = omega (arith, r.1, first, words);
    }

pub laid_push : (ps : List Part) (a b : ℕ) (p : Part) → AreLaid a b ps → p.start ≡ a + length_in (map stretch_of ps) → p.first ≡ b + count_in (map stretch_of ps) → IsSound p → AreLaid a b (ps ++ p ∷ [])
laid_push [] a b p h s f k = (omega (arith, s), omega (arith, f), k, tt)
laid_push (x ∷ ps) a b p h s f k =
    let some = h.2.some in
    let words = h.2.words in
    (h.0, h.1, h.2, laid_push ps x.end x.after p h.3 (omega (arith, s, h.0, some)) (omega (arith, f, h.1, words)) k)

-- sums

pub start_within : (l : List Stretch) (k : ℕ) → start_of l k ≤ length_in l
start_within [] zero = omega arith
start_within [] (suc k) = omega arith
start_within (s ∷ l) zero = omega arith
start_within (s ∷ l) (suc k) = let r = start_within l k in omega (arith, r)

words_few : (s : Stretch) → 8 * words_in s ≤ s.size + 14
words_few s = elim (below_or 0 s.size) [ inl h ↦ let e = words_some s h in omega (arith, e, h) | inr h ↦ let e = words_none s (omega (arith, h)) in omega (arith, e) ]

pub first_few : (l : List Stretch) (k : ℕ) → 8 * first_of l k ≤ length_in l + 14 * k
first_few [] zero = omega arith
first_few [] (suc k) = omega arith
first_few (s ∷ l) zero = omega arith
first_few (s ∷ l) (suc k) = let r = first_few l k in let w = words_few s in omega (arith, r, w)

-- a stretch that begins at a byte of a word
pub words_from : (w shift size : ℕ) → shift < 8 → 0 < size → words_in (record { place = 8 * w + shift; size = size }) ≡ (shift + size + 7) / 8
words_from w shift size h some = let e = words_some (record { place = 8 * w + shift; size = size }) some in omega (arith, e, h, some)

-- where a byte is found

pub here_in : (l : List Stretch) (k : ℕ) (part : Part) (p : ℕ) → IsPart l k part → k < length l → part.start ≤ p → p < part.end
    → (word_at l p ≡ part.first + (part.shift + (p - part.start)) / 8) × (place_at l p ≡ 8 * part.word + part.shift + (p - part.start)) × ((part.shift + (p - part.start)) / 8 < words_in (stretch_of part))
here_in l k part p h lt a b =
    let none : Stretch = record { place = 0; size = 0 } in
    let start = h.start in
    let first = h.first in
    let shift = h.sound.shift in
    let is = h.is none in
    let size : (get_or l k none).size ≡ part.end - part.start = ap (λ (s : Stretch). s.size) is in
    let place : (get_or l k none).place ≡ 8 * part.word + part.shift = ap (λ (s : Stretch). s.place) is in
    let r = word_in l k none p lt (omega (arith, start, a)) (omega (arith, start, b, size)) in
    let i = inner (stretch_of part) (p - part.start) (omega (arith, a, b)) in
    (omega (arith, r.0, place, start, first, shift), omega (arith, r.1, place, start), omega (arith, i, shift))

pub past_in : (l : List Stretch) (k : ℕ) (part : Part) (p : ℕ) → IsPart l k part → part.end ≤ p → part.first + words_in (stretch_of part) ≤ word_at l p
past_in l k part p h a =
    let r = word_past l (k + 1) p (let e = h.end in omega (arith, e, a)) in
    let after = h.after in
    let words = h.sound.words in
    omega (arith, r, after, words)

pub found_here : (l : List Stretch) (k : ℕ) (part : Part) (pos p : ℕ) → IsPart l k part → k < length l → part.start ≤ pos → pos < part.end → pos ≤ p → p < part.end → p < pos + (8 - (part.shift + (pos - part.start)) % 8)
    → (word_at l p ≡ word_at l pos) × (offset_at l p ≡ (p + (part.shift + 8 - part.start % 8)) % 8)
found_here l k part pos p h lt a b le end near =
    let x = here_in l k part pos h lt a b in
    let y = here_in l k part p h lt (omega (arith, a, le)) end in
    let word : (part.shift + (p - part.start)) / 8 ≡ (part.shift + (pos - part.start)) / 8 = omega (arith, a, le, near) in
    let place : (8 * part.word + part.shift + (p - part.start)) % 8 ≡ (p + (part.shift + 8 - part.start % 8)) % 8 = omega (arith, a, le) in
    (y.0 ∙ ap (λ n. part.first + n) word ∙ sym x.0, ap (λ n. n % 8) y.1 ∙ place)

pub found_after : (l : List Stretch) (k : ℕ) (part : Part) (pos p m : ℕ) → IsPart l k part → k < length l → part.start ≤ pos → pos < part.end → m ≡ min (part.end - pos) (8 - (part.shift + (pos - part.start)) % 8) → pos + m ≤ p → word_at l pos < word_at l p
found_after l k part pos p m h lt a b is le = elim (below_or p part.end) [
  | inl end ↦
      let x = here_in l k part pos h lt a b in
      let y = here_in l k part p h lt (omega (arith, a, le)) end in
      let far : pos + (8 - (part.shift + (pos - part.start)) % 8) ≤ p = elim (min_cases (part.end - pos) (8 - (part.shift + (pos - part.start)) % 8)) [
        | inl e ↦ absurd (omega (arith, e, is, le, end, b))
        | inr e ↦ omega (arith, e, is, le)
      ] in
      omega (arith, x.0, y.0, far, a)
  | inr past ↦
      let x = here_in l k part pos h lt a b in
      let y = past_in l k part p h past in
      omega (arith, x.0, x.2, y)
]

-- message words

pub part_pair : (l : List Stretch) (k : ℕ) (part : Part) (n : ℕ) → IsPart l k part → k < length l → first_of l k ≤ n → n < part.after → pair_at l n ≡ (k, part.word + (n - part.first))
part_pair l k part n h lt a b =
    let none : Stretch = record { place = 0; size = 0 } in
    let is = h.is none in
    let first = h.first in
    let words = h.sound.words in
    let shift = h.sound.shift in
    let same : words_in (get_or l k none) ≡ words_in (stretch_of part) = ap words_in is in
    let place : (get_or l k none).place ≡ 8 * part.word + part.shift = ap (λ (s : Stretch). s.place) is in
    let at : (get_or l k none).place / 8 + (n - first_of l k) ≡ part.word + (n - part.first) = omega (arith, place, first, shift) in
    pair_in l k none n lt a (omega (arith, b, first, words, same)) ∙ ap (λ m. (k, m)) at

-- the words of a part have numbers
pub words_last : (part : Part) → IsSound part → (n : ℕ) → n < words_in (stretch_of part) → part.word + n < 2 ^ 32
words_last part h n lt =
    let named = h.named in
    let shift = h.shift in
    elim (below_or 0 (stretch_of part).size) [
      | inl some ↦ let e = words_some (stretch_of part) some in omega (arith, e, lt, named, shift, some)
      | inr none ↦ let e = words_none (stretch_of part) (omega (arith, none)) in absurd (omega (arith, e, lt))
    ]
