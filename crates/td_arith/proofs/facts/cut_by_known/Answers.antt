use Rattle.td_arith_ranges.specs.Ends.{range_in}
use Rattle.td_arith.proofs.Cutting.{cut_next}
use Rattle.td_arith.proofs.facts.cut_by_known.Goals as goal

pub loop-k-preserved : goal.loop-k-preserved
loop-k-preserved c =
    cut_next c.args.known.now c.loop-k.k-index c.k-item.result c.args.e.now (range_in c.loop-k.left) (range_in c.in_ok-left.left) _ c.loop-k-test.true c.k-item.is
    c.loop-k.invariant c.in_ok-left.ensures
