use Rattle.std.proofs.Common.{refl}
use Rattle.td_prog_emit.proofs.Texts.{joined, recut}
use Rattle.td_prog_emit.proofs.parts_prelude.push_begin.Goals as goal

pub returns : goal.returns
returns c = recut (joined (c.in_ok-push.ensures {u = tt}) (joined (c.in_ok-push-2.ensures {u = tt}) c.push-3.ensures)) refl
