use Rattle.td_meaning.proofs.CopiesRead.{outcomes_are_decided}
use Rattle.td_meaning.proofs.laws.outcomes_are_decided.Goals as goal

pub returns : goal.returns
returns c = outcomes_are_decided
