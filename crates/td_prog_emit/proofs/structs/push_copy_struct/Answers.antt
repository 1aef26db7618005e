use Rattle.std.proofs.Common.{refl}
use Rattle.td_prog_emit.proofs.Texts.{joined, recut}
use Rattle.td_prog_emit.proofs.structs.push_copy_struct.Goals as goal

pub returns : goal.returns
returns c = recut (joined (c.in_ok-push_copy_name.ensures {u = tt}) c.push_decimal_in.ensures) refl
