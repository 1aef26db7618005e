use Rattle.td_prog_laws.proofs.Entry.{entry_runs_in_parts}
use Rattle.td_prog_laws.proofs.laws.entry_runs_in_parts.Goals as goal

pub returns : goal.returns
returns c = entry_runs_in_parts c.program_runs_in_parts.ensures c.run_stays_within.ensures c.few_frames.ensures
