use Rattle.std.proofs.Common.{refl}
use Rattle.td_prog_emit.proofs.Texts.{joined, recut}
use Rattle.td_prog_emit.proofs.heads.push_locals.Goals as goal

pub returns : goal.returns
returns c = recut (joined (c.in_ok-push.ensures {u = tt}) c.push_declarations.ensures) refl
