use Rattle.std.proofs.Common.{refl, append_assoc}
use Rattle.td_print.proofs.Texts.{text_append}
use Rattle.td_print.proofs.definitions.write_default.Goals as goal

pub returns-in_ok-write_case_fields-in-Some : goal.returns-in_ok-write_case_fields-in-Some
returns-in_ok-write_case_fields-in-Some c = simp (c.in_ok-write_case_fields-in-Some.ensures {u = tt}, c.in_ok-write-in-Some.ensures {u = tt}, c.as_slice.ensures, c.in-Some.is, text_append, append_assoc) refl
