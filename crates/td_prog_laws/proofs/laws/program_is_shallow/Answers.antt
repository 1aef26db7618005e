use Rattle.td_prog_laws.proofs.Shallow.{program_is_shallow}
use Rattle.td_prog_laws.proofs.laws.program_is_shallow.Goals as goal

pub returns : goal.returns
returns c = program_is_shallow
