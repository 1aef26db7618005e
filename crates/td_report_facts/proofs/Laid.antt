-- Cited by other crates.
-- The loads of a message that is a list of stretches, as the lines of a report show them.
use Rattle.std.proofs.Common.{inl, inr, ℕ, ◌+◌, ◌-◌, ◌*◌, ◌^◌, ◌<◌, ◌≤◌, List, [], ◌∷◌, length, Some, None, ap, arith}
use Rattle.std.specs.List.{All}
use Rattle.std.proofs.lemmas.List.Elements.{All-nil, All-cons, All-head, All-tail}
use Rattle.td_report_facts.specs.Imports.{Load, Stretch}
use Rattle.td_stream.specs.Layouts.{words_in, length_in, count_in, pair_at, AreWithin}
use Rattle.td_stream.specs.Loads.{Inside}
use Rattle.td_stream.proofs.Buffered.{word_within}
use Rattle.td_stream.proofs.Layouts.{below_or, words_some, words_none, pair_here, pair_there}
use Rattle.td_job.specs.declared.checks.TheConstants.{MOST_BYTES}
use Rattle.td_report.specs.Laws.{IsOf64Bits, IsShownBy, IsShownLoad}
use Rattle.td_report_facts.specs.Laws.{IsSizedLayout}

-- each word of a stretch holds a byte of it
few_in : (s : Stretch) → words_in s ≤ s.size
few_in s = elim (below_or 0 s.size) [
  | inl some ↦ let e = words_some s some in omega (arith, e, some)
  | inr none ↦ let e = words_none s (omega (arith, none)) in omega (arith, e)
]

-- a message has no more words than bytes
pub few_words : (layout : List Stretch) → count_in layout ≤ length_in layout
few_words [] = omega arith
few_words (s ∷ layout) =
    let here = few_in s in
    let more = few_words layout in
    omega (arith, here, more)

-- the stretch of a message word is one of the message's
stretch_within : (layout : List Stretch) (n : ℕ) → n < count_in layout → (pair_at layout n).0 < length layout
stretch_within [] n h = absurd (omega (arith, h))
stretch_within (s ∷ layout) n h = elim (below_or n (words_in s)) [
  | inl here ↦ let e = ap (λ (x : ℕ × ℕ). x.0) (pair_here s layout n here) in omega (arith, e)
  | inr there ↦
      let e = ap (λ (x : ℕ × ℕ). x.0) (pair_there s layout n there) in
      let r = stretch_within layout (n - words_in s) (omega (arith, h, there)) in
      omega (arith, e, r)
]

abbrev Low : Stretch → Type 0
Low s = s.place < 2 ^ 64

-- stretches at places of 64 bits lie in words of fewer bits
within_words : (layout : List Stretch) → length_in layout ≤ MOST_BYTES → All Low layout → AreWithin (2 ^ 62) layout
within_words [] short low = All-nil (λ (s : Stretch). s.place + s.size ≤ 8 * 2 ^ 62)
within_words (s ∷ layout) short low =
    let here = All-head Low s layout low in
    All-cons (λ (s : Stretch). s.place + s.size ≤ 8 * 2 ^ 62) s layout (omega (arith, short, here)) (within_words layout (omega (arith, short)) (All-tail Low s layout low))

shown_by : (layout : List Stretch) (n : ℕ) → IsSizedLayout layout → length_in layout ≤ MOST_BYTES → n < count_in layout → IsShownBy (Some layout) n
shown_by layout n sized short inside =
    let stretch = stretch_within layout n inside in
    let few = sized.few in
    let word = word_within (2 ^ 62) layout n (within_words layout short sized.places) inside in
    (inside, omega (arith, stretch, few), omega (arith, word))

abbrev pub SmallLoad : Load → Type 0
SmallLoad l = l.value < 2 ^ 64

-- loads of values of 64 bits, of words of a message of at most a MiB
pub of_64_bits : (layout : List Stretch) (loads : List Load) → length_in layout ≤ MOST_BYTES → Inside layout loads → All SmallLoad loads → All IsOf64Bits loads
of_64_bits layout [] short inside small = All-nil IsOf64Bits
of_64_bits layout (l ∷ loads) short inside small =
    let I : Load → Type 0 = λ l. l.word < count_in layout in
    let within = All-head I l loads inside in
    let few = few_words layout in
    All-cons IsOf64Bits l loads
    (record { word = omega (arith, within, few, short); value = All-head SmallLoad l loads small })
    (of_64_bits layout loads short (All-tail I l loads inside) (All-tail SmallLoad l loads small))

-- so are those of a message without a list of stretches shown
pub plainly_shown : (loads : List Load) → All IsOf64Bits loads → All (IsShownLoad None) loads
plainly_shown [] h = All-nil (IsShownLoad None)
plainly_shown (l ∷ loads) h = All-cons (IsShownLoad None) l loads (record { bits = All-head IsOf64Bits l loads h; by = tt }) (plainly_shown loads (All-tail IsOf64Bits l loads h))

-- and those of a message that is such a list
pub shown_by_stretches : (layout : List Stretch) (loads : List Load) → IsSizedLayout layout → length_in layout ≤ MOST_BYTES → Inside layout loads → All IsOf64Bits loads
    → All (IsShownLoad (Some layout)) loads
shown_by_stretches layout [] sized short inside h = All-nil (IsShownLoad (Some layout))
shown_by_stretches layout (l ∷ loads) sized short inside h =
    let I : Load → Type 0 = λ l. l.word < count_in layout in
    All-cons (IsShownLoad (Some layout)) l loads
    (record { bits = All-head IsOf64Bits l loads h; by = shown_by layout l.word sized short (All-head I l loads inside) })
    (shown_by_stretches layout loads sized short (All-tail I l loads inside) (All-tail IsOf64Bits l loads h))
