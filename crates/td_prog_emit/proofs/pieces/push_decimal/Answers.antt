use Rattle.td_prog_emit.proofs.pieces.push_decimal.Goals as goal
use Rattle.td_prog_emit.proofs.Texts.{piece}

pub returns : goal.returns
returns c = piece c.extend_decimal.ensures
