use Rattle.std.proofs.Common.{arith}
use Rattle.td_limits.specs.Depths.{item_depth}
use Rattle.td_limits.proofs.Folds.{greatest_more}
use Rattle.td_limits.proofs.depths.items_depth.Goals as goal

pub loop-item-preserved : goal.loop-item-preserved
loop-item-preserved c =
    let more = greatest_more (item_depth c.args.known.now) c.args.items.now c.loop-item.item-index c.item-item.result (omega arith) c.item-item.is in omega arith
