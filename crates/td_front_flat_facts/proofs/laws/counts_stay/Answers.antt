use Rattle.td_front_flat_facts.proofs.Counted.{counts_stay}
use Rattle.td_front_flat_facts.proofs.laws.counts_stay.Goals as goal

pub returns : goal.returns
returns c = counts_stay
