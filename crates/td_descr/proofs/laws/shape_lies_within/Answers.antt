use Rattle.td_descr.proofs.Within.{shaped}
use Rattle.td_descr.proofs.laws.shape_lies_within.Goals as goal

pub returns : goal.returns
returns c = shaped
