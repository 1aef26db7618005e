use Rattle.std.proofs.Common.{refl, append_assoc}
use Rattle.td_print.proofs.Texts.{text_append}
use Rattle.td_print.proofs.definitions.write_struct.Goals as goal

pub returns : goal.returns
returns c = simp (c.in_ok-write_closing.ensures {u = tt}, c.in_ok-write_struct_fields.ensures {u = tt}, c.in_ok-write_opening.ensures {u = tt}, c.in_ok-write.ensures {u = tt}, c.in_ok-write_entry.ensures {u = tt}, c.as_slice.ensures, text_append, append_assoc) refl
