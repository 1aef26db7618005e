use Rattle.td_prog_emit.proofs.heads.push_parameters.Goals as goal
use Rattle.td_prog_emit.proofs.Texts.{piece}

pub returns : goal.returns
returns c = piece c.extend_parameters.ensures
