-- What buffers hold, after a copy.
use Rattle.std.proofs.Common.{◌≡◌, ℕ, ◌+◌, ◌*◌, ◌-◌, ◌<◌, ◌≤◌, min, true, false, cond, List, length, drop, sym, ap, ◌∙◌, arith, nat_le, slice_set}
use Rattle.std.proofs.lemmas.List.{drop-set-add, drop-set-lt, map-set, length-drop}
use Rattle.td_num.specs.Numbers.{places_from}
use Rattle.td_core.specs.declared.outcome.Reason.TheVariants.{NotEnough}
use Rattle.td_core.specs.Outcome.{bytes_at, copies_by}
use Rattle.td_stream.specs.Copies.{BufferView, held_by}
use Rattle.td_ir.specs.State.{State, left}
use Rattle.td_ir.specs.Flow.{Goes, Fails, Effect, plain, copied}
use Rattle.td_core.specs.Held.{AreHeld}
use Rattle.td_core.proofs.Copies.{copies_set}

pub held_put : (b cells : List ℕ) (first number place p n : ℕ) (copies : List BufferView) (buffer : BufferView) → place ≡ first + 2 * number → length cells ≡ first + 2 * length copies → number < length copies
    → buffer.held ≡ bytes_at b (places_from p n) → AreHeld b first cells (held_by copies) → AreHeld b first (slice_set (slice_set cells place p) (place + 1) n) (held_by (slice_set copies number buffer))
held_put b cells first number place p n copies buffer at size there held h =
    let next : place + 1 ≡ first + (2 * number + 1) = omega (arith, at) in
    let rest : length (drop first cells) ≡ length cells - first = length-drop first cells in
    (λ i. copies_by b (drop first (slice_set (slice_set cells (at i) p) (next i) n)))
    ∙ ap (copies_by b) (drop-set-add first (slice_set cells (first + 2 * number) p) (2 * number + 1) n ∙ ap (λ xs. slice_set xs (2 * number + 1) n) (drop-set-add first cells (2 * number) p))
    ∙ copies_set b (drop first cells) number p n (omega (arith, rest, size, there))
    ∙ ap (λ xs. slice_set xs number (bytes_at b (places_from p n))) h
    ∙ ap (slice_set (held_by copies) number) (sym held)
    ∙ sym (map-set (λ (v : BufferView). v.held) copies number buffer)

-- a cell before those of the buffers
pub held_set : (b cells : List ℕ) (first place v : ℕ) (held : List (List ℕ)) → place < first → AreHeld b first cells held → AreHeld b first (slice_set cells place v) held
held_set b cells first place v held lt h = ap (copies_by b) (drop-set-lt first cells place v lt) ∙ h

over : (p n e : ℕ) → (n ≤ e - p → ⊥) → nat_le (p + n) e ≡ false
over p n e h = grind arith

within : (p n e : ℕ) → n ≤ e - p → p ≤ e → nat_le (p + n) e ≡ true
within p n e h l = grind arith

abbrev copy_effect : (next size room place count : ℕ) → State → Effect
copy_effect next size room place count s =
    record { flow = Goes next (record s { cells = slice_set (slice_set s.cells place s.pos) count (min size room); pos = s.pos + size }); touched = places_from s.pos (min size room); steps = 1 + min size room }

pub copy_short : (next size room place count site : ℕ) (s : State) → (size ≤ left s → ⊥) → copied next size room place count site s ≡ plain (Fails NotEnough site s.start s)
copy_short next size room place count site s h = ap (λ v. cond v (copy_effect next size room place count s) (plain (Fails NotEnough site s.start s))) (over s.pos size s.end h)

pub copy_enough : (next size room place count site : ℕ) (s : State) → size ≤ left s → s.pos ≤ s.end → copied next size room place count site s ≡ copy_effect next size room place count s
copy_enough next size room place count site s h l = ap (λ v. cond v (copy_effect next size room place count s) (plain (Fails NotEnough site s.start s))) (within s.pos size s.end h l)
