use Rattle.std.proofs.Common.{◌≡◌, ◌+◌, ◌<◌, [], length, slice_index_or, sym, subst, ◌∙◌, arith}
use Rattle.td_lower.specs.Sets.{IsSetOf}
use Rattle.td_lower.proofs.Places.{found}
use Rattle.td_lower.proofs.Codes.{index_of}
use Rattle.td_lower.proofs.Rising.{AreSetsTo, sets_more, sets_end}
use Rattle.td_lower.proofs.sets.sets_of.Goals as goal

pub loop-values-preserved : goal.loop-values-preserved
loop-values-preserved c =
    let all = c.args.listed.now in
    let n = c.loop-values.values-index in
    let item = c.values-item.result in
    let lt : n < length all = omega arith in
    let it : slice_index_or all n [] ≡ item = index_of all n item [] (found all n item lt c.values-item.is) in
    let s : IsSetOf (slice_index_or all n []) c.in_ok-set.set = subst (λ y. IsSetOf y c.in_ok-set.set) (c.as_slice.ensures ∙ sym it) c.in_ok-set.ensures in
    subst (λ y. AreSetsTo all y (n + 1)) (sym c.in_ok-push.ensures.ok) (sets_more all c.loop-values.sets c.in_ok-set.set n c.loop-values.invariant s)

pub returns : goal.returns
returns c = sets_end c.args.listed.now c.loop-values.sets c.loop-values.values-index (omega arith) c.loop-values.invariant
