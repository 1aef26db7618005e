use Rattle.std.proofs.Common.{refl, append_assoc, arith}
use Rattle.td_print_layout.specs.Fields.{field_line}
use Rattle.td_print.proofs.Texts.{text_append, text_more}
use Rattle.td_print.proofs.fields.write_case_fields.Goals as goal

pub loop-field-preserved : goal.loop-field-preserved
loop-field-preserved c =
    let more = text_more (field_line 3) c.args.fields.now c.loop-field.field-index c.field-item.result (omega arith) c.field-item.is in
    simp (c.in_ok-write-2.ensures {u = tt}, c.in_ok-write_field.ensures {u = tt}, c.in_ok-write.ensures {u = tt}, c.loop-field.invariant, more, text_append, append_assoc) refl
