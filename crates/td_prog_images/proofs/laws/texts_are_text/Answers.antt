use Rattle.td_prog_images.proofs.Texts.{texts_are_text}
use Rattle.td_prog_images.proofs.laws.texts_are_text.Goals as goal

pub returns : goal.returns
returns c =
    texts_are_text c.modules_are_checked.ensures c.modules_are_small.ensures c.code_is_within.ensures c.code_within_the_limits_has_an_image.ensures c.images_are_text.ensures
