use Rattle.td_image_fits.proofs.Codes.{code_is_within}
use Rattle.td_image_fits.proofs.laws.code_is_within.Goals as goal

pub returns : goal.returns
returns c = code_is_within
