-- What buffers hold, after a copy.
use Rattle.std.proofs.Common.{◌≡◌, ℕ, ◌+◌, ◌*◌, ◌-◌, ◌<◌, ◌≤◌, min, List, length, drop, sym, ap, ◌∙◌, arith, slice_set}
use Rattle.std.proofs.lemmas.List.{drop-set-add, map-set, length-drop}
use Rattle.td_num.specs.Numbers.{places_from}
use Rattle.td_direct.specs.Imports.{CopyOut, NotEnough}
use Rattle.td_core.specs.Held.{AreHeld}
use Rattle.td_core.specs.Outcome.{accepted, rejected, after_reading, and_then, bytes_at, copies_by}
use Rattle.td_core.proofs.Copies.{copies_set}
use Rattle.td_meaning.specs.Meaning.{with_copy}
use Rattle.td_meaning.specs.Words64.{copied_meaning}
use Rattle.td_meaning.proofs.Filling.{taken_long, taken_short}
use Rattle.td_stream.specs.Copies.{BufferView, held_by}

-- place and next are those of the buffer's cells
pub held_put : (b cells : List ℕ) (first number place next p n : ℕ) (copies : List BufferView) (buffer : BufferView) → place ≡ first + 2 * number → next ≡ place + 1 → length cells ≡ first + 2 * length copies → number < length copies
    → buffer.held ≡ bytes_at b (places_from p n) → AreHeld b first cells (held_by copies) → AreHeld b first (slice_set (slice_set cells place p) next n) (held_by (slice_set copies number buffer))
held_put b cells first number place next p n copies buffer at after size there held h =
    let behind : next ≡ first + (2 * number + 1) = omega (arith, at, after) in
    let rest : length (drop first cells) ≡ length cells - first = length-drop first cells in
    (λ i. copies_by b (drop first (slice_set (slice_set cells (at i) p) (behind i) n)))
    ∙ ap (copies_by b) (drop-set-add first (slice_set cells (first + 2 * number) p) (2 * number + 1) n ∙ ap (λ xs. slice_set xs (2 * number + 1) n) (drop-set-add first cells (2 * number) p))
    ∙ copies_set b (drop first cells) number p n (omega (arith, rest, size, there))
    ∙ ap (λ xs. slice_set xs number (bytes_at b (places_from p n))) h
    ∙ ap (slice_set (held_by copies) number) (sym held)
    ∙ sym (map-set (λ (v : BufferView). v.held) copies number buffer)

pub copied_long : (c : CopyOut) (places : List ℕ) (n end p : ℕ) (cells : List ℕ) → p + n ≤ end → copied_meaning c places n end p cells ≡ after_reading (places_from p (min n c.room)) (accepted (p + n) (with_copy c places p (min n c.room) cells))
copied_long c places n end p cells h = ap (λ t. and_then t (λ q cells. after_reading (places_from p (min n c.room)) (accepted q (with_copy c places p (min n c.room) cells)))) (taken_long n p end p cells h)

pub copied_short : (c : CopyOut) (places : List ℕ) (n end p : ℕ) (cells : List ℕ) → end < p + n → copied_meaning c places n end p cells ≡ rejected NotEnough p cells
copied_short c places n end p cells h = ap (λ t. and_then t (λ q cells. after_reading (places_from p (min n c.room)) (accepted q (with_copy c places p (min n c.room) cells)))) (taken_short n p end p cells h)
