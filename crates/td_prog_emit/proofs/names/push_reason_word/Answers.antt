use Rattle.td_prog_emit.proofs.names.push_reason_word.Goals as goal
use Rattle.td_prog_emit.proofs.Texts.{same_piece}

pub returns : goal.returns
returns c = same_piece c.push.ensures c.reason_word.ensures
