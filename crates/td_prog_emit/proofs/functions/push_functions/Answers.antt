use Rattle.std.proofs.Common.{refl}
use Rattle.td_prog_emit.proofs.Texts.{joined, recut}
use Rattle.td_prog_emit.proofs.functions.push_functions.Goals as goal

pub returns : goal.returns
returns c = recut (joined (c.in_ok-push_prelude.ensures {u = tt} c.args.parts.now) c.push_routines.ensures) refl
