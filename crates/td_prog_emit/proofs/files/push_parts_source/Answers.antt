use Rattle.std.proofs.Common.{refl}
use Rattle.td_prog_emit.proofs.Texts.{joined, recut}
use Rattle.td_prog_emit.proofs.files.push_parts_source.Goals as goal

pub returns : goal.returns
returns c = recut (joined (c.in_ok-push_parts_front.ensures {u = tt}) (joined (c.in_ok-push_parts_prelude.ensures {u = tt} c.args.parts.now) (joined (c.in_ok-push_routines.ensures {u = tt}) c.push_parts_functions.ensures))) refl
