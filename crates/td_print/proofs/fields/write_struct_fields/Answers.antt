use Rattle.std.proofs.Common.{arith}
use Rattle.td_print_layout.specs.Fields.{field_line}
use Rattle.td_print.proofs.Texts.{texts, text_more}
use Rattle.td_print.proofs.fields.write_struct_fields.Goals as goal

pub loop-field-preserved : goal.loop-field-preserved
loop-field-preserved c =
    let more = text_more (field_line 1) c.args.fields.now c.loop-field.field-index c.field-item.result (omega arith) c.field-item.is in
    grind (arith, texts, more)
