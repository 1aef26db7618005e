use Rattle.td_front_facts.proofs.Within.{modules_are_within}
use Rattle.td_front_facts.proofs.laws.modules_are_within.Goals as goal

pub returns : goal.returns
returns c = modules_are_within
