use Rattle.std.proofs.Common.{refl}
use Rattle.td_prog_emit.proofs.Texts.{joined, recut}
use Rattle.td_prog_emit.proofs.kinds.push_left.Goals as goal

pub returns : goal.returns
returns c parts n whole = recut (joined (c.in_ok-push_into.ensures {u = tt}) c.push.ensures) refl
