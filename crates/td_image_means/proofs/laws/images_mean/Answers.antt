use Rattle.td_image_means.proofs.Means.{images_mean}
use Rattle.td_image_means.proofs.laws.images_mean.Goals as goal

pub returns : goal.returns
returns c = images_mean c.validations_mean.ensures c.code_does_as_meant.ensures c.image_has_code.ensures
