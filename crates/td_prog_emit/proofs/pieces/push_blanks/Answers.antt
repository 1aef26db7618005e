use Rattle.td_prog_emit.proofs.Texts.{piece}
use Rattle.td_prog_emit.proofs.pieces.push_blanks.Goals as goal

pub returns : goal.returns
returns c = piece c.extend_blanks.ensures
