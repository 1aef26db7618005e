use Rattle.std.proofs.Common.{refl}
use Rattle.td_prog_emit.proofs.Texts.{joined, recut}
use Rattle.td_prog_emit.proofs.wrapper.push_initial.Goals as goal

pub returns : goal.returns
returns c = recut (joined (c.in_ok-push_comma.ensures {u = tt}) c.push_place.ensures) refl
