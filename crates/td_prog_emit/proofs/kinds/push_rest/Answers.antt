use Rattle.std.proofs.Common.{refl}
use Rattle.td_prog_emit.proofs.Texts.{recut}
use Rattle.td_prog_emit.proofs.kinds.push_rest.Goals as goal

pub returns : goal.returns
returns c parts n whole = recut c.push_line.ensures refl
