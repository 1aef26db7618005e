use Rattle.td_prog_emit.proofs.calls.push_registers.Goals as goal
use Rattle.td_prog_emit.proofs.Texts.{piece}

pub returns : goal.returns
returns c = piece c.extend_registers.ensures
