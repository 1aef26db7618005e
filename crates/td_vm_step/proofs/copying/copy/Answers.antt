use Rattle.std.proofs.Common.{rules, refl, ◌≡◌, ◌+◌, ◌-◌, ◌*◌, ◌≤◌, min, [], map, sym, ap, ◌∙◌, subst, arith, slice_index, slice_set}
use Rattle.std.proofs.lemmas.List.{append-nil, length-map}
use Rattle.std.proofs.Math.Seq.{map-set_same}
use Rattle.td_num.specs.Numbers.{places_from}
use Rattle.td_stream.specs.Loads.{Carries}
use Rattle.td_stream.specs.Copies.{BufferView, rooms_of}
use Rattle.td_stream.specs.StreamInvariant.{Looked, position, end_of, layout_of}
use Rattle.td_stream.proofs.Places.{look_more}
use Rattle.td_stream.proofs.Rooms.{room_at}
use Rattle.td_ir.specs.Flow.{Goes}
use Rattle.td_ir.specs.Tables.{routine_of}
use Rattle.td_vm_step.specs.Stepping.{state_of, effect_of}
use Rattle.td_vm_step.proofs.Stretches.{ran_self, ran_here}
use Rattle.td_vm_step.proofs.Buffers.{held_put, copy_short, copy_enough}
use Rattle.td_vm_step.proofs.copying.copy.Goals as goal

pub returns-then-operands-from-clause-same : goal.returns-then-operands-from-clause-same
returns-then-operands-from-clause-same g c =
    let a = c.args in
    let short : a.operands.size ≤ end_of a.stream.now - position a.stream.now → ⊥ = λ l. omega (arith, l, c.if-operands-from.true, c.from.ensures, c.end.ensures, c.pos.ensures) in
    let r = routine_of a.level.now.code.parts.now a.level.now.n in
    let first = r.cells + 2 * a.operands.buffer in
    ran_self a.stream.now a.steps.now _ (λ b regs. copy_short a.next a.operands.size (slice_index r.buffers a.operands.buffer) (slice_index a.level.now.places.now first) (slice_index a.level.now.places.now (first + 1)) a.operands.site (state_of regs a.slate.now.cells.now a.act.now a.stream.now) short)

pub copy_to-requires-clause-room : goal.copy_to-requires-clause-room
copy_to-requires-clause-room g c =
    let a = c.args in
    let copies = a.slate.now.copies.now in
    let at = c.requires.places.buffers a.operands.buffer c.requires.buffer in
    let number : c.number_of.result ≡ at.number = omega (arith, c.number_of.ensures, c.place_of-place.ensures, at.place_is) in
    let room = room_at copies c.number_of.result c.index-slate-number_of.result (omega (arith, at.there, number, length-map copies (λ (b : BufferView). b.room))) in
    let given : slice_index (rooms_of copies) at.number ≡ slice_index (rooms_of copies) c.number_of.result = ap (slice_index (rooms_of copies)) (sym number) in
    omega (arith, c.min-count.ensures, c.room_of.ensures, at.room_is, room, given)

pub returns-clause-lent : goal.returns-clause-lent
returns-clause-lent g c = record {
  same_cells = refl;
  same_copies = refl;
  same_trace = refl;
  cells = search rules;
  copies = search rules;
  rooms = map-set_same (λ (b : BufferView). b.room) c.args.slate.now.copies.now c.number_of.result c.copy_to.new.buffer c.index-slate-number_of.result c.copy_to.ensures.room;
  frames = refl;
  memory = refl;
}

pub returns-clause-held : goal.returns-clause-held
returns-clause-held g c = λ b h held.
    let a = c.args in
    let copies = a.slate.now.copies.now in
    let at = c.requires.places.buffers a.operands.buffer c.requires.buffer in
    let s = a.stream.now in
    let place : c.place_of-place.result ≡ a.level.now.first + 2 * at.number = c.place_of-place.ensures ∙ at.place_is in
    let number : c.number_of.result ≡ at.number = omega (arith, c.number_of.ensures, place) in
    let there = at.there in
    let many = length-map copies (λ (b : BufferView). b.room) in
    let earlier = subst (λ w. Carries (layout_of s) b (g.W.Words.loads w)) c.skip.ensures.same_words h in
    let from : position s ≡ c.from-2.result = sym (c.from-2.ensures ∙ c.pos-start.ensures) in
    let count : c.min-count.result ≡ c.from-3.result = sym c.from-3.ensures in
    held_put b a.slate.now.cells.now a.level.now.first c.number_of.result c.place_of-place.result c.from-2.result c.from-3.result copies c.copy_to.new.buffer
    (omega (arith, place, number)) (omega (arith, c.requires.places.size_is, many)) (omega (arith, there, number, many))
    (c.copy_to.ensures.held b earlier ∙ (λ i. map (slice_index b) (places_from (from i) (count i)))) held

pub returns-clause-same : goal.returns-clause-same
returns-clause-same g c =
    let a = c.args in
    let cells = a.slate.now.cells.now in
    let at = c.requires.places.buffers a.operands.buffer c.requires.buffer in
    let r = routine_of a.level.now.code.parts.now a.level.now.n in
    let room = slice_index r.buffers a.operands.buffer in
    let first = slice_index a.level.now.places.now (r.cells + 2 * a.operands.buffer) in
    let second = slice_index a.level.now.places.now (r.cells + 2 * a.operands.buffer + 1) in
    let s = a.stream.now in
    let m = c.copy_to.new.self in
    let t = c.skip.new.self in
    let k = c.min-count.result in
    let places = places_from (position s) k in
    let enough : a.operands.size ≤ end_of s - position s = omega (arith, c.if-operands-from.false, c.from.ensures, c.end.ensures, c.pos.ensures) in
    let fewest : min a.operands.size room ≡ k = omega (arith, c.min-count.ensures, c.room_of.ensures, enough, c.requires.whole.within) in
    let from : position s ≡ c.from-2.result = sym (c.from-2.ensures ∙ c.pos-start.ensures) in
    let count : min a.operands.size room ≡ c.from-3.result = fewest ∙ sym c.from-3.ensures in
    let place : first ≡ c.place_of-place.result = sym c.place_of-place.ensures in
    let behind : second ≡ c.place_of-place.result + 1 = at.count_is ∙ ap (λ n. n + 1) place in
    let moved : position s + a.operands.size ≡ position t = omega (arith, c.copy_to.ensures.moves.at, c.skip.ensures.moves.at, fewest, enough) in
    let ended : end_of s ≡ end_of t = sym (c.skip.ensures.moves.ends ∙ c.copy_to.ensures.moves.ends) in
    ran_here s t a.steps.now c.add.new.self places k _ c.add.ensures
    (subst (λ xs. Looked g.W.Words.loads s t xs) (append-nil places) (look_more s m t places [] c.copy_to.ensures.moves.looked c.skip.ensures.moves.looked))
    (λ b h regs.
    copy_enough a.next a.operands.size room first second a.operands.site (state_of regs cells a.act.now s) enough c.requires.whole.within
    ∙ (λ i. effect_of (Goes a.next (record { regs = regs; cells = slice_set (slice_set cells (place i) (from i)) (behind i) (count i); start = a.act.now.start; pos = moved i; end = ended i; outer = a.act.now.outer })) (places_from (position s) (fewest i)) (1 + fewest i)))
