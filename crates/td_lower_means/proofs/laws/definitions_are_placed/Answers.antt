use Rattle.td_lower_means.proofs.Placing.{definitions_are_placed}
use Rattle.td_lower_means.proofs.laws.definitions_are_placed.Goals as goal

pub returns : goal.returns
returns c = definitions_are_placed
