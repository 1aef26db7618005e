use Rattle.std.proofs.Common.{arith}
use Rattle.td_print.specs.Writing.{after_comma}
use Rattle.td_print.proofs.Texts.{texts, text_more}
use Rattle.td_print.proofs.definitions.write_other_items.Goals as goal

pub loop-item-preserved : goal.loop-item-preserved
loop-item-preserved c =
    let more = text_more after_comma c.args.others.now c.loop-item.item-index c.item-item.result (omega arith) c.item-item.is in
    grind (arith, texts, more)
