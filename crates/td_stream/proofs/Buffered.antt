-- Loads, each message word named by its word of the buffer. Cited by other crates.
use Rattle.std.proofs.Common.{◌≡◌, ℕ, ◌+◌, ◌-◌, ◌*◌, ◌<◌, ◌≤◌, inl, inr, Option, Some, None, List, [], ◌∷◌, ◌++◌, length, refl, ap, arith}
use Rattle.std.proofs.lemmas.List.{map_push, length-map}
use Rattle.std.proofs.lemmas.List.Elements.{All-head, All-tail}
use Rattle.td_stream.specs.declared.load.Load.{Load}
use Rattle.td_stream.specs.declared.stretch.Stretch.{Stretch}
use Rattle.td_stream.specs.Layouts.{words_in, count_in, buffer_word, buffer_word_of, loadable, AreWithin, IsOver}
use Rattle.td_stream.specs.Loads.{buffered}
use Rattle.td_stream.proofs.Layouts.{below_or, words_some, words_none, pair_here, pair_there}

-- a load by its word of the buffer
abbrev pub in_buffer : Option (List Stretch) → Load → Load
in_buffer o l = record { word = buffer_word_of o l.word; value = l.value }

pub buffered_push : (o : Option (List Stretch)) (xs : List Load) (l : Load) → buffered o (xs ++ l ∷ []) ≡ buffered o xs ++ in_buffer o l ∷ []
buffered_push None xs l = refl
buffered_push (Some layout) xs l = map_push (in_buffer (Some layout)) xs l

pub buffered_length : (o : Option (List Stretch)) (xs : List Load) → length (buffered o xs) ≡ length xs
buffered_length None xs = refl
buffered_length (Some layout) xs = length-map xs (in_buffer (Some layout))

-- words of stretches that are within a buffer are within it
pub word_within : (w : ℕ) (layout : List Stretch) (n : ℕ) → AreWithin w layout → n < count_in layout → buffer_word layout n < w
word_within w [] n h lt = absurd (omega (arith, lt))
word_within w (s ∷ layout) n h lt =
    let P : Stretch → Type 0 = λ s. s.place + s.size ≤ 8 * w in
    let first : s.place + s.size ≤ 8 * w = All-head P s layout h in
    elim (below_or n (words_in s)) [
      | inl here ↦
          let e = ap (λ (x : ℕ × ℕ). x.1) (pair_here s layout n here) in
          elim (below_or 0 s.size) [
            | inl some ↦ let m = words_some s some in omega (arith, e, m, here, first, some)
            | inr none ↦ let m = words_none s (omega (arith, none)) in absurd (omega (arith, m, here))
          ]
      | inr there ↦
          let e = ap (λ (x : ℕ × ℕ). x.1) (pair_there s layout n there) in
          let r = word_within w layout (n - words_in s) (All-tail P s layout h) (omega (arith, lt, there)) in
          omega (arith, e, r)
    ]

pub named_within : (w : ℕ) (o : Option (List Stretch)) (n : ℕ) → IsOver w o → n < loadable o w → buffer_word_of o n < w
named_within w None n h lt = lt
named_within w (Some layout) n h lt = word_within w layout n h lt

-- without a layout every number names a word
pub number_of : (o : Option (List Stretch)) (n w : ℕ) → n < loadable o w → n < loadable o (n + 1)
number_of None n w lt = omega arith
number_of (Some layout) n w lt = lt
