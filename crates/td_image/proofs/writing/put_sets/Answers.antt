use Rattle.std.proofs.Common.{ℕ, List, ◌++◌, ap, ◌∙◌}
use Rattle.td_image.specs.Rows as rows
use Rattle.td_image.proofs.RowByRow.{one_more}
use Rattle.td_image.proofs.writing.put_sets.Goals as goal

pub loop-row-preserved : goal.loop-row-preserved
loop-row-preserved c =
    one_more rows.set c.args.sets.now c.loop-row.row-index c.row-item.result c.args.out.now.items c.loop-row.out.items c.put_set.new.out.items c.loop-row-test.true c.row-item.is c.loop-row.invariant
    (c.in_ok-put_set.ensures ∙ ap (λ (xs : List ℕ). c.loop-row.out.items ++ rows.set xs) c.as_slice.ensures)
