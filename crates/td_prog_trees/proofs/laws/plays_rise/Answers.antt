use Rattle.td_prog_trees.proofs.Adversary.{plays_rise}
use Rattle.td_prog_trees.proofs.laws.plays_rise.Goals as goal

pub returns : goal.returns
returns c = plays_rise
