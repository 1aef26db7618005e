use Rattle.td_prog_runs.proofs.Entry.{program_runs_in_parts}
use Rattle.td_prog_runs.proofs.laws.program_runs_in_parts.Goals as goal

pub returns : goal.returns
returns c = program_runs_in_parts c.sound_code_in_parts.ensures
