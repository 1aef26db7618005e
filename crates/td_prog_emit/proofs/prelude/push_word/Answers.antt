use Rattle.std.proofs.Common.{refl}
use Rattle.td_prog_emit.proofs.Texts.{recut}
use Rattle.td_prog_emit.proofs.prelude.push_word.Goals as goal

pub returns : goal.returns
returns c parts = recut c.push.ensures refl
