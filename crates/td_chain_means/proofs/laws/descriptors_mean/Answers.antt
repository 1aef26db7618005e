use Rattle.td_chain_means.proofs.Meant.{descriptors_mean}
use Rattle.td_chain_means.proofs.laws.descriptors_mean.Goals as goal

pub returns : goal.returns
returns c = descriptors_mean
