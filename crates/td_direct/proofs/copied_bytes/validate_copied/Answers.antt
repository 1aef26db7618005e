use Rattle.std.proofs.Common.{◌≡◌, ◌+◌, ◌-◌, ◌≤◌, ◌<◌, min, [], refl, map, sym, ap, ◌∙◌, subst, arith, slice_index, slice_set}
use Rattle.std.proofs.lemmas.List.{append-nil, length-map}
use Rattle.std.proofs.Math.Seq.{map-set_same}
use Rattle.td_num.specs.Numbers.{places_from}
use Rattle.td_core.specs.Held.{AreHeld}
use Rattle.td_direct.specs.Imports.{NotEnough}
use Rattle.td_core.specs.Outcome.{accepted, rejected, after_reading}
use Rattle.td_meaning.specs.Meaning.{with_copy}
use Rattle.td_stream.specs.Loads.{Carries}
use Rattle.td_stream.specs.Copies.{BufferView, held_by, rooms_of}
use Rattle.td_stream.specs.StreamInvariant.{Looked, position, end_of, layout_of}
use Rattle.td_stream.proofs.Places.{look_more, look_nowhere}
use Rattle.td_stream.proofs.Rooms.{room_at}
use Rattle.td_direct.proofs.Held.{held_put, copied_long, copied_short}
use Rattle.td_direct.proofs.copied_bytes.validate_copied.Goals as goal

pub copy_to-requires-clause-room : goal.copy_to-requires-clause-room
copy_to-requires-clause-room g c =
    let a = c.args in
    let at = c.requires.own in
    let number : c.number_of-number.result ≡ at.number = omega (arith, c.number_of-number.ensures, c.place_at.ensures, at.place_is) in
    let room = room_at a.copies.now c.number_of-number.result c.index-copies-number.result (omega (arith, at.there, number, length-map a.copies.now (λ (b : BufferView). b.room))) in
    let given : slice_index (rooms_of a.copies.now) at.number ≡ slice_index (rooms_of a.copies.now) c.number_of-number.result = ap (slice_index (rooms_of a.copies.now)) (sym number) in
    omega (arith, c.min-count.ensures, at.room_is, room, given)

pub returns-then-size-from-clause-step : goal.returns-then-size-from-clause-step
returns-then-size-from-clause-step g c = λ b h.
    let a = c.args in
    let s = a.stream.now in
    let less : s.end < s.pos + a.size = omega (arith, c.if-size-from.true, c.from.ensures, c.end.ensures, c.pos-start.ensures, c.requires.whole.within) in
    record { seen = []; looked = look_nowhere s s refl refl; is = copied_short a.copy a.places.now a.size s.end s.pos a.cells.now less ∙ (λ k. rejected NotEnough (sym c.pos-start.ensures k) a.cells.now) }

pub returns-clause-rooms : goal.returns-clause-rooms
returns-clause-rooms g c = map-set_same (λ (b : BufferView). b.room) c.args.copies.now c.number_of-number.result c.copy_to.new.buffer c.index-copies-number.result c.copy_to.ensures.room

pub returns-clause-held : goal.returns-clause-held
returns-clause-held g c = λ b h held.
    let a = c.args in
    let at = c.requires.own in
    let s = a.stream.now in
    let number : c.number_of-number.result ≡ at.number = omega (arith, c.number_of-number.ensures, c.place_at.ensures, at.place_is) in
    let there = at.there in
    let many = length-map a.copies.now (λ (b : BufferView). b.room) in
    let earlier = subst (λ w. Carries (layout_of s) b (g.W.Words.loads w)) c.skip.ensures.same_words h in
    let from : position s ≡ c.from-2.result = sym (c.from-2.ensures ∙ c.pos-start.ensures) in
    let count : c.min-count.result ≡ c.from-3.result = sym c.from-3.ensures in
    let place = slice_index a.places.now a.copy.cell in
    let next = slice_index a.places.now (a.copy.cell + 1) in
    subst (λ cells. AreHeld b a.first cells (held_by (slice_set a.copies.now c.number_of-number.result c.copy_to.new.buffer))) (sym c.put_copy.ensures)
    (held_put b a.cells.now a.first c.number_of-number.result place next c.from-2.result c.from-3.result a.copies.now c.copy_to.new.buffer
    (omega (arith, at.place_is, number)) at.count_is c.requires.size (omega (arith, there, number, many))
    (c.copy_to.ensures.held b earlier ∙ (λ i. map (slice_index b) (places_from (from i) (count i)))) held)

pub returns-clause-step : goal.returns-clause-step
returns-clause-step g c = λ b h.
    let a = c.args in
    let s = a.stream.now in
    let m = c.copy_to.new.self in
    let t = c.skip.new.self in
    let k = c.min-count.result in
    let places = places_from (position s) k in
    let enough : a.size ≤ end_of s - position s = omega (arith, c.if-size-from.false, c.from.ensures, c.end.ensures, c.pos-start.ensures) in
    let inside : position s + a.size ≤ end_of s = omega (arith, enough, c.requires.whole.within) in
    let fewest : min a.size a.copy.room ≡ k = omega (arith, c.min-count.ensures, enough, c.requires.whole.within) in
    let from : position s ≡ c.from-2.result = sym (c.from-2.ensures ∙ c.pos-start.ensures) in
    let count : min a.size a.copy.room ≡ c.from-3.result = fewest ∙ sym c.from-3.ensures in
    let moved : position s + a.size ≡ c.pos.result = omega (arith, c.pos.ensures, c.copy_to.ensures.moves.at, c.skip.ensures.moves.at, fewest, enough) in
    let last : with_copy a.copy a.places.now (position s) (min a.size a.copy.room) a.cells.now ≡ c.put_copy.new.cells = (λ i. with_copy a.copy a.places.now (from i) (count i) a.cells.now) ∙ sym c.put_copy.ensures in
    record {
      seen = places;
      looked = subst (λ xs. Looked g.W.Words.loads s t xs) (append-nil places) (look_more s m t places [] c.copy_to.ensures.moves.looked c.skip.ensures.moves.looked);
      is = copied_long a.copy a.places.now a.size (end_of s) (position s) a.cells.now inside ∙ (λ i. after_reading (places_from (position s) (fewest i)) (accepted (moved i) (last i)));
    }
