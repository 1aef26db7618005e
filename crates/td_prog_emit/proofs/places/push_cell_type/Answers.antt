use Rattle.td_prog_emit.proofs.Texts.{same_piece}
use Rattle.td_prog_emit.proofs.places.push_cell_type.Goals as goal

pub returns : goal.returns
returns c = same_piece c.push.ensures c.cell_type.ensures
