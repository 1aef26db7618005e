use Rattle.std.proofs.Common.{refl, append_assoc}
use Rattle.td_print.proofs.Texts.{text_append}
use Rattle.td_print.proofs.definitions.write_output.Goals as goal

pub returns : goal.returns
returns c = simp (c.in_ok-write_closing.ensures {u = tt}, c.in_ok-write_slots.ensures {u = tt}, c.in_ok-write_between.ensures {u = tt}, c.as_slice.ensures, text_append, append_assoc) refl
