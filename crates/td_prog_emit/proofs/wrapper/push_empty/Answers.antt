use Rattle.std.proofs.Common.{refl}
use Rattle.td_prog_emit.proofs.Texts.{joined, recut}
use Rattle.td_prog_emit.proofs.wrapper.push_empty.Goals as goal

pub returns : goal.returns
returns c name = recut (joined (c.in_ok-push.ensures {u = tt}) (joined (c.in_ok-push_buffer_name.ensures {u = tt}) c.push-2.ensures)) refl
