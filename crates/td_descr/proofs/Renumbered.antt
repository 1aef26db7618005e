-- Loads of a descriptor's words after that of word 0.
use Rattle.std.proofs.Common.{◌≡◌, ℕ, ◌+◌, ◌<◌, List, [], ◌∷◌, sym, subst, arith}
use Rattle.std.specs.List.{All}
use Rattle.std.proofs.lemmas.List.Elements.{All-nil, All-cons, All-map, All-weaker}
use Rattle.td_descr.specs.Imports.{Load, Outcome, Parts}
use Rattle.td_stream.specs.Loads.{IsRising, IsNext}
use Rattle.td_descr.specs.Words.{load_of, raised}
use Rattle.td_descr.specs.Ring.{IsValidated}

-- the words are all later than this one
pub all_later : (n base : ℕ) (loads : List Load) → n < base → All (λ (m : Load). n < m.word) (raised base loads)
all_later n base [] lt = All-nil (λ (m : Load). n < m.word)
all_later n base (l ∷ loads) lt = All-cons (λ (m : Load). n < m.word) (load_of (base + l.word) l.value) (raised base loads) (omega (arith, lt)) (all_later n base loads lt)

above : (base n : ℕ) (loads : List Load) → All (λ (m : Load). n < m.word) loads → All (λ (m : Load). base + n < m.word) (raised base loads)
above base n loads all =
    All-map (λ (m : Load). base + n < m.word) (λ (l : Load). load_of (base + l.word) l.value) loads
    (All-weaker (λ (m : Load). n < m.word) (λ (m : Load). base + n < base + m.word) (λ m lt. omega (arith, lt)) loads all)

-- they rise
pub raised_rise : (base : ℕ) (loads : List Load) → IsRising loads → IsRising (raised base loads)
raised_rise base [] r = tt
raised_rise base (l ∷ loads) r = (above base l.word loads r.0, raised_rise base loads r.1)

-- after word 0 they rise too
pub all_rise : (base head : ℕ) (loads : List Load) → 0 < base → IsRising loads → IsRising (load_of 0 head ∷ raised base loads)
all_rise base head loads lt r = (all_later 0 base loads lt, raised_rise base loads r)

-- a word that may come next may do so under its number among all words
pub next_behind : (base head i : ℕ) (loads : List Load) → 0 < base → IsNext i loads → IsNext (base + i) (load_of 0 head ∷ raised base loads)
next_behind base head i loads lt n = record {
  below = All-cons (λ (m : Load). m.word < base + i) (load_of 0 head) (raised base loads) (omega (arith, lt))
      (All-map (λ (m : Load). m.word < base + i) (λ (l : Load). load_of (base + l.word) l.value) loads
      (All-weaker (λ (m : Load). m.word < i) (λ (m : Load). base + m.word < base + i) (λ m b. omega (arith, b)) loads n.below));
  rising = all_rise base head loads lt n.rising;
}

-- all loads of a look rise
pub rises_by : (c : Parts) (room most base head : ℕ) (loads descriptor : List Load) (o : Outcome) → loads ≡ load_of 0 head ∷ raised base descriptor → IsValidated c room most descriptor o → 0 < base → IsRising loads
rises_by c room most base head loads descriptor o e v lt = subst IsRising (sym e) (all_rise base head descriptor lt v.validated.rising)
