use Rattle.std.proofs.Common.{◌≡◌, ◌+◌, length, min, take, arith}
use Rattle.std.specs.List.{flat_map}
use Rattle.td_image.specs.Rows as rows
use Rattle.td_image.proofs.NameSizes.{one_more}
use Rattle.td_image.proofs.writing.names_size.Goals as goal

pub loop-name-preserved : goal.loop-name-preserved
loop-name-preserved c =
    let more = one_more c.args.names.now c.loop-name.name-index c.name-item.result c.loop-name-test.true c.name-item.is in
    let size : c.saturating_add-size.result ≡ min (length (flat_map rows.name (take (c.loop-name.name-index + 1) c.args.names.now))) 18446744073709551615 =
    omega (arith, more, c.loop-name.invariant, c.saturating_add.ensures, c.len.ensures, c.saturating_add-size.ensures)
    in
    size
