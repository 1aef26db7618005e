use Rattle.std.proofs.Common.{refl}
use Rattle.td_prog_emit.proofs.Texts.{joined, recut}
use Rattle.td_prog_emit.proofs.kinds.push_jump_if.Goals as goal

pub returns : goal.returns
returns c parts n whole = recut (joined (c.in_ok-push_begun.ensures {u = tt}) (joined (c.in_ok-push_register_in.ensures {u = tt}) (joined (c.in_ok-push_goto.ensures {u = tt}) c.push_close.ensures))) refl
