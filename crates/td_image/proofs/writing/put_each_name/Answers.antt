use Rattle.td_image.specs.Rows as rows
use Rattle.td_image.proofs.RowByRow.{one_more}
use Rattle.td_image.proofs.writing.put_each_name.Goals as goal

pub loop-row-preserved : goal.loop-row-preserved
loop-row-preserved c =
    one_more rows.name c.args.names.now c.loop-row.row-index c.row-item.result c.args.out.now.items c.loop-row.out.items c.put_name.new.out.items c.loop-row-test.true c.row-item.is c.loop-row.invariant
    c.in_ok-put_name.ensures
