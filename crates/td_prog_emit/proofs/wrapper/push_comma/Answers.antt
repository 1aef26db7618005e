use Rattle.td_prog_emit.proofs.Texts.{same_piece}
use Rattle.td_prog_emit.proofs.wrapper.push_comma.Goals as goal

pub returns : goal.returns
returns c = same_piece c.push.ensures c.comma.ensures
