use Rattle.std.proofs.Common.{refl}
use Rattle.td_prog_emit.proofs.Texts.{joined, recut}
use Rattle.td_prog_emit.proofs.parts_prelude.push_little_2.Goals as goal

pub returns : goal.returns
returns c parts = recut (joined (c.in_ok-push_begin.ensures {u = tt}) (joined (c.in_ok-push_more.ensures {u = tt}) c.push.ensures)) refl
