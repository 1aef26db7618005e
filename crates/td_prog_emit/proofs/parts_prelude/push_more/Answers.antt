use Rattle.std.proofs.Common.{refl}
use Rattle.td_prog_emit.proofs.Texts.{joined, recut}
use Rattle.td_prog_emit.proofs.parts_prelude.push_more.Goals as goal

pub returns : goal.returns
returns c = recut (joined (c.in_ok-push_numeral_in.ensures {u = tt}) c.push_numeral_in-2.ensures) refl
