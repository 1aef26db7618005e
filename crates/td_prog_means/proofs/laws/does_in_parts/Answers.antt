use Rattle.td_prog_means.proofs.Means.{does_in_parts}
use Rattle.td_prog_means.proofs.laws.does_in_parts.Goals as goal

pub returns : goal.returns
returns c = does_in_parts c.program_runs_in_parts.ensures c.code_does_as_meant.ensures
