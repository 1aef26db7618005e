use Rattle.std.proofs.Common.{◌≡◌, suc, ◌+◌, ◌<◌, ap, ◌∙◌, arith, slice_index_or, slice_set, length}
use Rattle.td_stream.specs.Copies.{BufferView}
use Rattle.td_stream.proofs.Clearing.{cleared, cleared_next}
use Rattle.td_stream.proofs.copies.Copies.clear.Goals as goal

pub loop-k-preserved : goal.loop-k-preserved
loop-k-preserved c =
    let old = c.args.self.now.buffers.items in
    let k = c.loop-k.k in
    let v = c.clear.new.self in
    let next : suc k ≡ k + 1 = omega arith in
    let inside : k < length old = omega (arith, c.loop-k-test.true, c.len-k-end.ensures) in
    ap (λ xs. slice_set xs k v) c.loop-k.invariant
    ∙ cleared_next old k c.index_mut.result.now v inside c.clear.ensures.held (c.clear.ensures.room ∙ ap (λ (b : BufferView). b.room) (c.index_mut.ensures.value ∙ ap (λ xs. slice_index_or xs k c.index_mut.result.now) c.loop-k.invariant))
    ∙ ap (λ n. cleared n old) next
