use Rattle.td_chain.proofs.Holding.{worked}
use Rattle.td_chain.proofs.laws.worked_chain.Goals as goal

pub returns : goal.returns
returns c = worked
