use Rattle.td_chain_means.proofs.Meant.{descriptors_mean_at}
use Rattle.td_chain_means.proofs.laws.descriptors_mean_at.Goals as goal

pub returns : goal.returns
returns c = descriptors_mean_at
