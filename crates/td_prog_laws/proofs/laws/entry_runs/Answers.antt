use Rattle.td_prog_laws.proofs.Entry.{entry_runs}
use Rattle.td_prog_laws.proofs.laws.entry_runs.Goals as goal

pub returns : goal.returns
returns c = entry_runs c.program_runs.ensures c.run_stays_within.ensures c.few_frames.ensures
