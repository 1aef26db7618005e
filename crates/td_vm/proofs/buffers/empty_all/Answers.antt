use Rattle.std.proofs.Common.{◌≡◌, suc, ◌+◌, ◌<◌, ap, ◌∙◌, arith, slice_index_or, slice_set, length}
use Rattle.td_stream.specs.Copies.{BufferView}
use Rattle.td_vm.proofs.Emptying.{emptied, emptied_next}
use Rattle.td_vm.proofs.buffers.empty_all.Goals as goal

pub loop-k-preserved : goal.loop-k-preserved
loop-k-preserved c =
    let old = c.args.buffers.now in
    let k = c.loop-k.k in
    let v = c.clear.new.self in
    let next : suc k ≡ k + 1 = omega arith in
    let inside : k < length old = omega (arith, c.loop-k-test.true) in
    ap (λ xs. slice_set xs k v) c.loop-k.invariant
    ∙ emptied_next old k c.index-buffers-k.result v inside c.clear.ensures.held (c.clear.ensures.room ∙ ap (λ (b : BufferView). b.room) (ap (λ xs. slice_index_or xs k c.index-buffers-k.result) c.loop-k.invariant))
    ∙ ap (λ n. emptied n old) next
