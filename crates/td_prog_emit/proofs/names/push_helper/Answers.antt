use Rattle.td_prog_emit.proofs.names.push_helper.Goals as goal
use Rattle.td_prog_emit.proofs.Texts.{same_piece}

pub returns : goal.returns
returns c = same_piece c.push.ensures c.helper_name.ensures
