use Rattle.td_image_fits.proofs.Texts.{modules_are_small}
use Rattle.td_image_fits.proofs.laws.modules_are_small.Goals as goal

pub returns : goal.returns
returns c = modules_are_small c.names_are_written.ensures c.either_form.ensures.form
