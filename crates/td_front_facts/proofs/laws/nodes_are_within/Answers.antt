use Rattle.td_front_facts.proofs.Within.{nodes_are_within}
use Rattle.td_front_facts.proofs.laws.nodes_are_within.Goals as goal

pub returns : goal.returns
returns c = nodes_are_within
