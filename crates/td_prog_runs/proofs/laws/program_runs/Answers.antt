use Rattle.td_prog_runs.proofs.Entry.{program_runs}
use Rattle.td_prog_runs.proofs.laws.program_runs.Goals as goal

pub returns : goal.returns
returns c = program_runs c.sound_code_in_c.ensures
