use Rattle.td_image.specs.Rows as rows
use Rattle.td_image.proofs.RowByRow.{next_row}
use Rattle.td_image.proofs.writing.put_elements.Goals as goal

pub loop-row-preserved : goal.loop-row-preserved
loop-row-preserved c =
    next_row rows.element c.args.elements.now c.loop-row.row-index _ c.args.out.now.items c.loop-row.out.items c.put_u64.new.out.items c.loop-row-test.true c.loop-row.invariant
    c.in_ok-put_u64.ensures
