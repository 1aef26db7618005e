use Rattle.std.proofs.Common.{refl}
use Rattle.td_prog_emit.proofs.Texts.{recut}
use Rattle.td_prog_emit.proofs.fixed.push_piece_text.Goals as goal

pub returns : goal.returns
returns c = recut c.push.ensures refl
