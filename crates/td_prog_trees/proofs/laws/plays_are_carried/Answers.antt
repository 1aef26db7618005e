use Rattle.td_prog_trees.proofs.Trees.{plays_are_carried}
use Rattle.td_prog_trees.proofs.laws.plays_are_carried.Goals as goal

pub returns : goal.returns
returns c = plays_are_carried
