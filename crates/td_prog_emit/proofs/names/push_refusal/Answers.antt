use Rattle.std.proofs.Common.{refl}
use Rattle.td_prog_emit.proofs.Texts.{joined, recut}
use Rattle.td_prog_emit.proofs.names.push_refusal.Goals as goal

pub returns : goal.returns
returns c = recut (joined (c.in_ok-push_failure.ensures {u = tt}) c.push_close.ensures) refl
