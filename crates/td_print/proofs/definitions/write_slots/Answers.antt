use Rattle.std.proofs.Common.{arith}
use Rattle.td_print_layout.specs.Definitions.{slot_line}
use Rattle.td_print.proofs.Texts.{texts, text_more}
use Rattle.td_print.proofs.definitions.write_slots.Goals as goal

pub loop-slot-preserved : goal.loop-slot-preserved
loop-slot-preserved c =
    let more = text_more slot_line c.args.slots.now c.loop-slot.slot-index c.slot-item.result (omega arith) c.slot-item.is in
    grind (arith, texts, more)
