use Rattle.td_prog_means.proofs.Means.{does_in_c}
use Rattle.td_prog_means.proofs.laws.does_in_c.Goals as goal

pub returns : goal.returns
returns c = does_in_c c.program_runs.ensures c.code_does_as_meant.ensures
