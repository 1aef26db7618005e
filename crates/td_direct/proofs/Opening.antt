-- The list of all numbers, as a validation begins and ends.
use Rattle.std.proofs.Common.{◌≡◌, ℕ, ◌+◌, ◌*◌, List, [], ◌++◌, length, length-append, take, drop, Some, sym, ap, ◌∙◌, subst, arith}
use Rattle.std.specs.Prelude.{slice_get}
use Rattle.std.proofs.lemmas.List.{length-replicate}
use Rattle.td_num.specs.Numbers.{places_from}
use Rattle.td_core.specs.Entries.{entry_definition}
use Rattle.td_core.specs.Held.{AreHeld}
use Rattle.td_core.specs.Outcome.{Behavior, plain, copies_by}
use Rattle.td_direct.specs.Imports.{Entry, Module, Outcome, TraceFrame, Verdict, Load, Stream, Stretch}
use Rattle.td_meaning.specs.Copies.{opened, IsSoundOn}
use Rattle.td_meaning.specs.Words64.{below}
use Rattle.td_meaning.specs.Meaning.{meaning}
use Rattle.td_meaning.specs.Verdicts.{ending_of, IsAt}
use Rattle.td_meaning.proofs.Meaning64 as words64
use Rattle.td_fetch.specs.Outcomes.{IsBehaviorOf}
use Rattle.td_direct.specs.Validates.{Reads}
use Rattle.td_direct.proofs.Stepping.{behavior_lent}
use Rattle.td_stream.specs.Copies.{BufferView, held_by, rooms_of}
use Rattle.td_stream.specs.Loads.{Carries}
use Rattle.td_stream.specs.StreamInvariant.{layout_of}
use Rattle.td_direct.specs.Copies.{AreOfEntry}
use Rattle.td_direct.specs.Placing.{IsPlaced}
use Rattle.td_direct.proofs.Placed.{zeros, at_entry, definition_placed, buffers_for, count_of, held_first}
use Rattle.td_direct.proofs.TypeLemmas.{entry_is}

-- a whole validation, with the cells that are given back and what the buffers hold
pub behavior_held : {W : Type 0} {loads : W → List Load} (s t : Stream W) (words : W) (layout : List Stretch) (whole meant : Behavior) (v : Verdict) (p n : ℕ) (trace last_trace : List TraceFrame) (all cells b : List ℕ) (copies : List (List ℕ)) → loads s.words.now ≡ [] → IsAt v p trace → words ≡ t.words.now → layout_of s ≡ layout → last_trace ≡ trace
    → Carries layout b (loads words) → (Carries (layout_of s) b (loads t.words.now) → Reads loads s t whole (plain (ending_of v trace all))) → whole ≡ meant → take n all ≡ cells → (Carries (layout_of s) b (loads t.words.now) → copies_by b (drop n all) ≡ copies)
    → IsBehaviorOf layout n b (loads words) meant (record { verdict = v; trace = last_trace; cells = cells; copies = copies })
behavior_held {W} {loads} s t words layout whole meant v p n trace last_trace all cells b copies none at w long traced h step same last held =
    let h' : Carries (layout_of s) b (loads t.words.now) = subst (λ (x : List Stretch × W). Carries x.0 b (loads x.1)) (λ i. (sym long i, w i)) h in
    let copied = held h' in
    subst (λ (o : Outcome). IsBehaviorOf layout n b (loads words) meant o) (λ i. record { verdict = v; trace = sym traced i; cells = last i; copies = copied i })
    (behavior_lent s t words layout whole meant v p n trace all b none at w long h step same)

pub long_is : (cells all : List ℕ) (k n : ℕ) (vs : List BufferView) → all ≡ cells ++ zeros (2 * k) → k ≡ length vs → n ≡ length all → n ≡ length cells + 2 * length vs
long_is cells all k n vs e many long =
    let both = ap length e in
    let two : length (zeros (2 * k)) ≡ 2 * k = length-replicate (2 * k) 0 in
    omega (arith, many, long, both, length-append cells (zeros (2 * k)), two)

module _ (m : Module) (entry : Entry) (cells all : List ℕ) (k n : ℕ) (vs : List BufferView) (of : AreOfEntry m entry (length cells) vs) (e : all ≡ cells ++ zeros (2 * k)) (many : k ≡ length vs) (long : n ≡ length all) where
  opened_is : all ≡ opened m entry cells
  opened_is = e ∙ ap (λ j. cells ++ zeros (2 * j)) (many ∙ sym (count_of (entry_definition m entry.number) (length cells) vs of))

  pub whole_is : (args b places : List ℕ) (place bound end p : ℕ) → slice_get m.entries entry.number ≡ Some place → bound ≡ length m.definitions → places ≡ places_from 0 n → end ≡ length b → p ≡ 0
      → IsSoundOn m entry args cells b → below m.listed m.definitions bound place args places all b p end ≡ meaning m entry args (opened m entry cells) b
  whole_is args b places place bound end p get same at ends start sound =
      entry_is m entry args all b place bound places end p get same (at ∙ ap (places_from 0) long) ends start
      ∙ ap (λ xs. words64.meaning m entry args xs b) opened_is
      ∙ words64.meaning_is m entry args (opened m entry cells) b sound

  pub entry_ready : (place : ℕ) (places : List ℕ) (ws : List BufferView) → slice_get m.entries entry.number ≡ Some place → places ≡ places_from 0 n → ws ≡ vs → IsPlaced (slice_get m.definitions place) places (length cells) (rooms_of ws)
  entry_ready place places ws get at lies =
      subst (λ (x : List ℕ × List BufferView). IsPlaced (slice_get m.definitions place) x.0 (length cells) (rooms_of x.1)) (λ i. (sym at i, sym lies i))
      (definition_placed (slice_get m.definitions place) n (length cells) vs (at_entry m entry place (length cells) vs get of) (long_is cells all k n vs e many long))

  pub held_begun : (b : List ℕ) (ws : List BufferView) → ws ≡ vs → AreHeld b (length cells) all (held_by ws)
  held_begun b ws lies =
      let bs = buffers_for (entry_definition m entry.number) (length cells) vs of in
      subst (λ (x : List ℕ × List BufferView). AreHeld b (length cells) x.0 (held_by x.1)) (λ i. (sym (e ∙ ap (λ j. cells ++ zeros (2 * j)) many) i, sym lies i)) (held_first b cells bs.0 vs bs.1)
