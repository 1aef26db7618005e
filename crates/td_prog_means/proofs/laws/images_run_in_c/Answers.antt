use Rattle.td_prog_means.proofs.Means.{images_run_in_c}
use Rattle.td_prog_means.proofs.laws.images_run_in_c.Goals as goal

pub returns : goal.returns
returns c = images_run_in_c c.program_runs.ensures c.tables_fit.ensures c.what_is_read_can_be_written.ensures
