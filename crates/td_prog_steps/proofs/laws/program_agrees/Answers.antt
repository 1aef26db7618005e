use Rattle.td_prog_steps.proofs.Whole.{program_agrees}
use Rattle.td_prog_steps.proofs.laws.program_agrees.Goals as goal

pub returns : goal.returns
returns c = program_agrees
