use Rattle.td_image.proofs.Answering.{cut_is_short}
use Rattle.td_image.proofs.laws.cut_is_short.Goals as goal

pub returns : goal.returns
returns c = cut_is_short
