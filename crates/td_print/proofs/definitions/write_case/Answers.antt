use Rattle.std.proofs.Common.{refl, append_assoc}
use Rattle.td_print.proofs.Texts.{text_append}
use Rattle.td_print.proofs.definitions.write_case.Goals as goal

pub returns : goal.returns
returns c = simp (c.in_ok-write_case_fields.ensures {u = tt}, c.in_ok-write-2.ensures {u = tt}, c.in_ok-write_constant.ensures {u = tt}, c.in_ok-write.ensures {u = tt}, c.as_slice.ensures, text_append, append_assoc) refl
