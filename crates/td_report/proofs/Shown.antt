-- What the lines of loads determine.
use Rattle.std.proofs.Common.{◌≡◌, ℕ, ◌<◌, List, [], ◌∷◌, ◌++◌, map, length, length-append, Option, Some, None, inl, inr, sym, ap, ◌∙◌, refl, append_assoc, arith, codes, decimal}
use Rattle.std.proofs.lemmas.Bool.{cases_order}
use Rattle.std.proofs.lemmas.Fmt.{decimal_injective}
use Rattle.std.proofs.lemmas.List.Elements.{All-head, All-tail}
use Rattle.std.proofs.lemmas.Option.{same_Some}
use Rattle.std.specs.List.{All}
use Rattle.td_report.specs.Imports.{Load, Stretch}
use Rattle.td_stream.specs.Layouts.{count_in, pair_at}
use Rattle.td_stream.specs.Laws.{Before}
use Rattle.td_stream.proofs.Plain.{pairs_rise}
use Rattle.td_report.specs.Report.{word_words, hex_digits}
use Rattle.td_report.specs.Laws.{IsShownLoad, ShownLoad, shown_load, shown_loads, ShownLoadsAreOne}
use Rattle.td_report.proofs.Cutting.{cut, cut_after}
use Rattle.td_report.proofs.Hexadecimals.{hex_length, same_value}
use Rattle.td_report.proofs.Lines.{decimal_above, load_words}

load_parts : (word value : List ℕ) → codes "load " ++ word ++ codes " " ++ value ≡ codes "load " ++ (word ++ 32 ∷ value)
load_parts word value = append_assoc (codes "load " ++ word) (codes " ") value ∙ append_assoc (codes "load ") word (32 ∷ value)

-- the words of a load after `load `
abbrev tail : Option (List Stretch) → Load → List ℕ
tail layout load = word_words layout load.word ++ 32 ∷ hex_digits 16 load.value

cut_words : (k l : Option (List Stretch)) (x y : Load) → load_words k x ≡ load_words l y → codes "load " ++ tail k x ≡ codes "load " ++ tail l y
cut_words k l x y e = sym (load_parts (word_words k x.word) (hex_digits 16 x.value)) ∙ e ∙ load_parts (word_words l y.word) (hex_digits 16 y.value)

two : (a b : ℕ) (r : List ℕ) → decimal a ++ codes " " ++ decimal b ++ 32 ∷ r ≡ decimal a ++ 32 ∷ (decimal b ++ 32 ∷ r)
two a b r = append_assoc (decimal a ++ codes " ") (decimal b) (32 ∷ r) ∙ append_assoc (decimal a) (codes " ") (decimal b ++ 32 ∷ r)

-- a word alone is told from a stretch and a word by what stands after the first blank
longer : (v w : ℕ) (d : List ℕ) → hex_digits 16 v ≡ d ++ 32 ∷ hex_digits 16 w → ⊥
longer v w d e =
    let left = hex_length 16 v in
    let right = hex_length 16 w in
    let same = ap (length {A = ℕ}) e in
    let sum = length-append d (32 ∷ hex_digits 16 w) in
    omega (arith, left, right, same, sum)

mixed : (layout : List Stretch) (x y : Load) → IsShownLoad None x → IsShownLoad (Some layout) y → codes "load " ++ tail None x ≡ codes "load " ++ tail (Some layout) y → ⊥
mixed layout x y hx hy e =
    let p = pair_at layout y.word in
    let whole : codes "load " ++ (decimal x.word ++ 32 ∷ hex_digits 16 x.value) ≡ codes "load " ++ (decimal p.0 ++ 32 ∷ (decimal p.1 ++ 32 ∷ hex_digits 16 y.value)) = e ∙ ap (λ l. codes "load " ++ l) (two p.0 p.1 (hex_digits 16 y.value)) in
    let parts =
    cut_after (codes "load ") 32 (decimal x.word) (decimal p.0) (hex_digits 16 x.value) (decimal p.1 ++ 32 ∷ hex_digits 16 y.value)
    (decimal_above 32 x.word (omega arith) hx.bits.word) (decimal_above 32 p.0 (omega arith) hy.by.1) whole in
    longer x.value y.value (decimal p.1) parts.1

abbrev made : Option ℕ → ℕ → ℕ → ShownLoad
made stretch word value = record { stretch = stretch; word = word; value = value }

-- equal lines are of loads of which they say the same
pub shown_alike : (k l : Option (List Stretch)) (x y : Load) → IsShownLoad k x → IsShownLoad l y → load_words k x ≡ load_words l y → shown_load k x ≡ shown_load l y
shown_alike None None x y hx hy e =
    let parts =
    cut_after (codes "load ") 32 (decimal x.word) (decimal y.word) (hex_digits 16 x.value) (hex_digits 16 y.value)
    (decimal_above 32 x.word (omega arith) hx.bits.word) (decimal_above 32 y.word (omega arith) hy.bits.word) (cut_words None None x y e) in
    let word = decimal_injective x.word y.word hx.bits.word hy.bits.word parts.0 in
    let value = same_value x.value y.value hx.bits.value hy.bits.value parts.1 in
    ap (λ n. made None n x.value) word ∙ ap (made None y.word) value
shown_alike None (Some l) x y hx hy e = absurd (mixed l x y hx hy (cut_words None (Some l) x y e))
shown_alike (Some k) None x y hx hy e = absurd (mixed k y x hy hx (sym (cut_words (Some k) None x y e)))
shown_alike (Some k) (Some l) x y hx hy e =
    let p = pair_at k x.word in
    let q = pair_at l y.word in
    let r = hex_digits 16 x.value in
    let s = hex_digits 16 y.value in
    let whole : codes "load " ++ (decimal p.0 ++ 32 ∷ (decimal p.1 ++ 32 ∷ r)) ≡ codes "load " ++ (decimal q.0 ++ 32 ∷ (decimal q.1 ++ 32 ∷ s)) =
    ap (λ l. codes "load " ++ l) (sym (two p.0 p.1 r)) ∙ cut_words (Some k) (Some l) x y e ∙ ap (λ l. codes "load " ++ l) (two q.0 q.1 s) in
    let first = cut_after (codes "load ") 32 (decimal p.0) (decimal q.0) (decimal p.1 ++ 32 ∷ r) (decimal q.1 ++ 32 ∷ s) (decimal_above 32 p.0 (omega arith) hx.by.1) (decimal_above 32 q.0 (omega arith) hy.by.1) whole in
    let second = cut 32 (decimal p.1) (decimal q.1) r s (decimal_above 32 p.1 (omega arith) hx.by.2) (decimal_above 32 q.1 (omega arith) hy.by.2) first.1 in
    let stretch = decimal_injective p.0 q.0 hx.by.1 hy.by.1 first.0 in
    let word = decimal_injective p.1 q.1 hx.by.2 hy.by.2 second.0 in
    let value = same_value x.value y.value hx.bits.value hy.bits.value second.1 in
    ap (λ n. made (Some n) p.1 x.value) stretch ∙ ap (λ n. made (Some q.0) n x.value) word ∙ ap (made (Some q.0) q.1) value

pub all_shown_alike : (k l : Option (List Stretch)) (xs ys : List Load) → All (IsShownLoad k) xs → All (IsShownLoad l) ys → map (load_words k) xs ≡ map (load_words l) ys → shown_loads k xs ≡ shown_loads l ys
all_shown_alike k l [] [] hx hy e = refl
all_shown_alike k l [] (y ∷ ys) hx hy e = cc
all_shown_alike k l (x ∷ xs) [] hx hy e = cc
all_shown_alike k l (x ∷ xs) (y ∷ ys) hx hy e =
    let P : Load → Type 0 = IsShownLoad k in
    let Q : Load → Type 0 = IsShownLoad l in
    let first = shown_alike k l x y (All-head P x xs hx) (All-head Q y ys hy) (cc) in
    let rest = all_shown_alike k l xs ys (All-tail P x xs hx) (All-tail Q y ys hy) (cc) in
    cc

-- numbers of one pair are one
same_number : (layout : List Stretch) (n m : ℕ) → n < count_in layout → m < count_in layout → pair_at layout n ≡ pair_at layout m → n ≡ m
same_number layout n m hn hm e = elim (cases_order n m) [
  | inl same ↦ same
  | inr other ↦ elim other [
    | inl less ↦ absurd (apart (pair_at layout n) (pair_at layout m) (pairs_rise layout n m less hm) e)
    | inr more ↦ absurd (apart (pair_at layout m) (pair_at layout n) (pairs_rise layout m n more hn) (sym e))
  ]
]
  where
    apart : (x y : ℕ × ℕ) → Before x y → x ≡ y → ⊥
    apart x y (inl lt) e = let f : x.0 ≡ y.0 = ap (λ (z : ℕ × ℕ). z.0) e in omega (arith, f, lt)
    apart x y (inr h) e = let f : x.1 ≡ y.1 = ap (λ (z : ℕ × ℕ). z.1) e in let lt = h.1 in omega (arith, f, lt)

other_number : (layout : Option (List Stretch)) (x y : Load) → IsShownLoad layout x → IsShownLoad layout y → shown_load layout x ≡ shown_load layout y → x.word ≡ y.word
other_number None x y hx hy e = ap (λ (s : ShownLoad). s.word) e
other_number (Some layout) x y hx hy e =
    let stretch = same_Some _ _ (ap (λ (s : ShownLoad). s.stretch) e) in
    let word = ap (λ (s : ShownLoad). s.word) e in
    same_number layout x.word y.word hx.by.0 hy.by.0 (λ i. (stretch i, word i))

shown_value : (layout : Option (List Stretch)) (x : Load) → (shown_load layout x).value ≡ x.value
shown_value None x = refl
shown_value (Some layout) x = refl

same_load : (layout : Option (List Stretch)) (x y : Load) → IsShownLoad layout x → IsShownLoad layout y → shown_load layout x ≡ shown_load layout y → x ≡ y
same_load layout x y hx hy e =
    let word = other_number layout x y hx hy e in
    let value = sym (shown_value layout x) ∙ ap (λ (s : ShownLoad). s.value) e ∙ shown_value layout y in
    let make : ℕ → ℕ → Load = λ word value. record { word = word; value = value } in
    ap (λ n. make n x.value) word ∙ ap (make y.word) value

pub same_loads : ShownLoadsAreOne
same_loads layout [] [] hx hy e = refl
same_loads layout [] (y ∷ ys) hx hy e = absurd (cc)
same_loads layout (x ∷ xs) [] hx hy e = absurd (cc)
same_loads layout (x ∷ xs) (y ∷ ys) hx hy e =
    let P : Load → Type 0 = IsShownLoad layout in
    let head : shown_load layout x ≡ shown_load layout y = cc in
    let first = same_load layout x y (All-head P x xs hx) (All-head P y ys hy) head in
    let rest = same_loads layout xs ys (All-tail P x xs hx) (All-tail P y ys hy) (cc) in
    cc
