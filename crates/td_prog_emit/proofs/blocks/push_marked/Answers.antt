use Rattle.td_prog_emit.proofs.blocks.push_marked.Goals as goal
use Rattle.std.proofs.Common.{refl}
use Rattle.td_prog_emit.proofs.Texts.{as_one}

pub returns : goal.returns
returns c = as_one c.push_decimal_in.ensures refl
