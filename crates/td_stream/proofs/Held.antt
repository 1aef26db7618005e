-- Bytes that stand in one word.
use Rattle.std.proofs.Common.{◌≡◌, ℕ, zero, suc, ◌+◌, ◌*◌, ◌/◌, ◌%◌, ◌^◌, ◌<◌, ◌≤◌, inl, List, length, refl, sym, ap, ◌∙◌, subst, arith, slice_index}
use Rattle.std.specs.List.{Contains}
use Rattle.std.proofs.lemmas.List.Elements.{All-contains}
use Rattle.td_num.specs.Numbers.{byte_of, places_from}
use Rattle.td_stream.specs.declared.load.Load.{Load}
use Rattle.td_stream.specs.declared.stretch.Stretch.{Stretch}
use Rattle.td_stream.specs.Digits.{HasDigits}
use Rattle.td_stream.specs.Layouts.{length_in, word_at, offset_at}
use Rattle.td_stream.specs.Loads.{Carries, Agrees, IsLoaded}
use Rattle.td_stream.specs.StreamInvariant.{IsStream, Looked, layout_of}
use Rattle.td_stream.specs.declared.stream.Stream.{Stream}
use Rattle.td_stream.proofs.Digits.{digit_inside}

place_range : (p w q : ℕ) → Contains (places_from p w) q → (p ≤ q) × (q < p + w)
place_range p zero q c = absurd (omega (arith, c.1))
place_range p (suc w) q (zero, lt, e) = (omega (arith, e), omega (arith, e))
place_range p (suc w) q (suc k, lt, e) = let r = place_range (p + 1) w q (k, omega (arith, lt), e) in (omega (arith, r.0), omega (arith, r.1))

pub look_within : {W : Type 0} {loads : W → List Load} {size : W → ℕ} (s t : Stream W) (w : ℕ) → IsStream loads size s → s.pos + w ≤ s.until → t.words ≡ s.words → t.layout ≡ s.layout → Looked loads s t (places_from s.pos w)
look_within {W} {loads} s t w is held words layout = record {
  layout = ap (λ x. x.now) layout;
  kept = λ i k. subst (λ x. IsLoaded (loads x.now) i) (sym words) k;
  here = λ q c.
      let r = place_range s.pos w q c in
      subst (λ x. IsLoaded (loads x.now) (word_at (layout_of s) q)) (sym words) (s.held, (is.held q r.0 (omega (arith, r.1, held))).0);
  only = λ i k. inl (subst (λ x. IsLoaded (loads x.now) i) words k);
}

-- the digits of a piece of the held word
pub held_digits : {W : Type 0} {loads : W → List Load} {size : W → ℕ} (b : List ℕ) (s : Stream W) (w x : ℕ) → IsStream loads size s → 0 < w → s.pos + w ≤ s.until → s.pos + w ≤ length_in (layout_of s) → Carries (layout_of s) b (loads s.words.now)
    → x ≡ s.held / 2 ^ (8 * ((s.pos + s.skew) % 8)) % 2 ^ (8 * w) → HasDigits b s.pos w x
held_digits {W} {loads} b s w x is some held inside h e = λ j lt. ap (λ y. byte_of y j) e ∙ digit_inside s.held ((s.pos + s.skew) % 8) w j lt ∙ sym (each j lt)
  where
    L : List Stretch
    L = layout_of s

    each : (j : ℕ) → j < w → slice_index b (s.pos + j) ≡ byte_of s.held ((s.pos + s.skew) % 8 + j)
    each j lt =
        let ends = is.ends (omega (arith, some, held)) in
        let at = is.held (s.pos + j) (omega arith) (omega (arith, lt, held)) in
        let load : Load = record { word = word_at L (s.pos + j); value = s.held } in
        let size = h.size in
        let short : s.pos + j < length b = omega (arith, size, inside, lt) in
        let byte : slice_index b (s.pos + j) ≡ byte_of s.held (offset_at L (s.pos + j)) = All-contains (Agrees L b) (loads s.words.now) load h.agree at.0 (s.pos + j) short refl in
        let place : (s.pos + j + s.skew) % 8 ≡ (s.pos + s.skew) % 8 + j = omega (arith, ends, lt, held) in
        byte ∙ ap (byte_of s.held) (at.1 ∙ place)
