use Rattle.std.proofs.Common.{refl, append_assoc}
use Rattle.td_print.proofs.Wholes.{switch_text}
use Rattle.td_print.proofs.definitions.write_switch.Goals as goal

pub returns : goal.returns
returns c =
    let whole = switch_text c.args.tree.now in
    simp (c.in_ok-write.ensures {u = tt}, c.in_ok-write_default.ensures {u = tt}, c.in_ok-write_cases.ensures {u = tt}, c.in_ok-write_subject.ensures {u = tt}, c.as_slice.ensures, whole, append_assoc) refl
