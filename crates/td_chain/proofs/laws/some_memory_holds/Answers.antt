use Rattle.td_chain.proofs.Holding.{some_holds}
use Rattle.td_chain.proofs.laws.some_memory_holds.Goals as goal

pub returns : goal.returns
returns c = some_holds
