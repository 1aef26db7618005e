use Rattle.td_prog_images.proofs.Texts.{images_run_in_parts}
use Rattle.td_prog_images.proofs.laws.images_run_in_parts.Goals as goal

pub returns : goal.returns
returns c = images_run_in_parts c.program_runs_in_parts.ensures c.tables_fit.ensures c.what_is_read_can_be_written.ensures
