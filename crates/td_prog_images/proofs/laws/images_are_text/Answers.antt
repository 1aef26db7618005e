use Rattle.td_prog_images.proofs.Texts.{images_are_text}
use Rattle.td_prog_images.proofs.laws.images_are_text.Goals as goal

pub returns : goal.returns
returns c = images_are_text c.program_is_text.ensures c.parts_program_is_text.ensures c.tables_fit.ensures c.what_is_read_can_be_written.ensures
