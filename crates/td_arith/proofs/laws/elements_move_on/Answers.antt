use Rattle.td_arith.proofs.Sizes.{elements_move_on}
use Rattle.td_arith.proofs.laws.elements_move_on.Goals as goal

pub returns : goal.returns
returns c = elements_move_on
