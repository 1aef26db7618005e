use Rattle.td_meaning.proofs.EndingDefinitions.{endings_are_within}
use Rattle.td_meaning.proofs.laws.endings_are_within.Goals as goal

pub returns : goal.returns
returns c = endings_are_within
