use Rattle.td_c_text.proofs.Telling.{texts_tell_parts}
use Rattle.td_c_text.proofs.laws.texts_tell_in_parts.Goals as goal

pub returns : goal.returns
returns c =
    texts_tell_parts c.modules_are_checked.ensures c.one_answer_each.ensures.one_module c.modules_are_small.ensures c.code_is_within.ensures c.code_within_the_limits_has_an_image.ensures c.images_do_in_parts.ensures
