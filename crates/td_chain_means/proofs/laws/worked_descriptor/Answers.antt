use Rattle.td_chain_means.proofs.Meant.{worked}
use Rattle.td_chain_means.proofs.laws.worked_descriptor.Goals as goal

pub returns : goal.returns
returns c = worked
