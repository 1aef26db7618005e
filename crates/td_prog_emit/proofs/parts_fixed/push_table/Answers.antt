use Rattle.std.proofs.Common.{refl}
use Rattle.td_prog_emit.proofs.Texts.{recut}
use Rattle.td_prog_emit.proofs.parts_fixed.push_table.Goals as goal

pub returns : goal.returns
returns c = recut c.push.ensures refl
