use Rattle.td_prog_trees.proofs.PlainReader.{numbers_are_taken}
use Rattle.td_prog_trees.proofs.laws.numbers_are_taken.Goals as goal

pub returns : goal.returns
returns c = numbers_are_taken
