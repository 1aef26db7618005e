use Rattle.td_front_facts.proofs.Within.{weights_are_within}
use Rattle.td_front_facts.proofs.laws.weights_are_within.Goals as goal

pub returns : goal.returns
returns c = weights_are_within
