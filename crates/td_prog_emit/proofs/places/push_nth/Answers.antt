use Rattle.td_prog_emit.proofs.Texts.{same_piece}
use Rattle.td_prog_emit.proofs.places.push_nth.Goals as goal

pub returns : goal.returns
returns c = same_piece c.push.ensures c.name_of.ensures
