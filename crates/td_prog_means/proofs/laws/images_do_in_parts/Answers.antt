use Rattle.td_prog_means.proofs.Means.{images_do_in_parts}
use Rattle.td_prog_means.proofs.laws.images_do_in_parts.Goals as goal

pub returns : goal.returns
returns c = images_do_in_parts c.does_in_parts.ensures c.image_has_code.ensures c.what_is_read_can_be_written.ensures
