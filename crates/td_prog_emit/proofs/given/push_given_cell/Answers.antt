use Rattle.std.proofs.Common.{refl}
use Rattle.td_prog_emit.proofs.Texts.{recut}
use Rattle.td_prog_emit.proofs.given.push_given_cell.Goals as goal

pub returns : goal.returns
returns c = recut c.push_decimal_in.ensures refl
