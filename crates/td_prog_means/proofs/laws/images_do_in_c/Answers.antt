use Rattle.td_prog_means.proofs.Means.{images_do_in_c}
use Rattle.td_prog_means.proofs.laws.images_do_in_c.Goals as goal

pub returns : goal.returns
returns c = images_do_in_c c.does_in_c.ensures c.image_has_code.ensures c.what_is_read_can_be_written.ensures
