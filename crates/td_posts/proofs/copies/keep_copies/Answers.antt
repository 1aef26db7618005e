use Rattle.std.proofs.Common.{◌≡◌, ℕ, suc, ◌+◌, ◌<◌, ◌≤◌, List, length, take, refl, sym, ap, ◌∙◌, subst, arith, slice_index_or, slice_set}
use Rattle.td_stream.specs.Copies.{BufferView, held_by, rooms_of}
use Rattle.td_posts.proofs.Refilled.{refilled, refilled_next, refilled_room, refilled_rooms, refilled_all, enough, room_at}
use Rattle.td_posts.proofs.copies.keep_copies.Goals as goal

pub bounds-buffers-k : goal.bounds-buffers-k
bounds-buffers-k c =
    let many = enough c.args.buffers.now c.args.copies.now c.requires in
    omega (arith, many, c.loop-k-test.true, c.loop-k.auto.k-end)

pub refill-requires : goal.refill-requires
refill-requires c =
    let others = c.args.buffers.now in
    let old = c.args.copies.now in
    let k = c.loop-k.k in
    let d = c.index-copies-k.result in
    let e = c.index-buffers-k.result in
    let inside : k < length old = omega (arith, c.loop-k-test.true, c.loop-k.auto.k-end) in
    let fits = room_at others old k d e c.requires inside in
    let room : (slice_index_or c.loop-k.copies k d).room ≡ (slice_index_or old k d).room =
    ap (λ (xs : List BufferView). (slice_index_or xs k d).room) c.loop-k.invariant ∙ refilled_room others old k k d in
    let held : length c.as_slice.result.now ≡ length (slice_index_or others k e).held =
    ap (length {A = ℕ}) c.as_slice.ensures ∙ ap (λ (b : BufferView). length b.held) c.index-buffers-k.is in
    omega (arith, fits, room, held)

pub loop-k-preserved : goal.loop-k-preserved
loop-k-preserved c =
    let others = c.args.buffers.now in
    let old = c.args.copies.now in
    let k = c.loop-k.k in
    let d = c.index-copies-k.result in
    let e = c.index-buffers-k.result in
    let v = c.refill.new.buffer in
    let next : suc k ≡ k + 1 = omega arith in
    let inside : k < length old = omega (arith, c.loop-k-test.true, c.loop-k.auto.k-end) in
    let many = enough others old c.requires in
    ap (λ xs. slice_set xs k v) c.loop-k.invariant
    ∙ refilled_next others old k d e v inside (omega (arith, inside, many))
    (c.refill.ensures.held ∙ c.as_slice.ensures ∙ ap (λ (b : BufferView). b.held) c.index-buffers-k.is)
    (c.refill.ensures.room ∙ ap (λ (xs : List BufferView). (slice_index_or xs k d).room) c.loop-k.invariant)
    ∙ ap (λ n. refilled n others old) next

pub returns-clause-held : goal.returns-clause-held
returns-clause-held c =
    let others = c.args.buffers.now in
    let old = c.args.copies.now in
    let many = enough others old c.requires in
    let all : c.loop-k.k ≡ length old = omega (arith, c.loop-k-test.false, c.loop-k.auto.k-end) in
    ap held_by c.loop-k.invariant ∙ refilled_all others old c.loop-k.k all many

pub returns-clause-rooms : goal.returns-clause-rooms
returns-clause-rooms c = ap rooms_of c.loop-k.invariant ∙ refilled_rooms c.args.buffers.now c.args.copies.now c.loop-k.k
