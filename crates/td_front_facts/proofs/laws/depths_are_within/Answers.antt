use Rattle.td_front_facts.proofs.Within.{depths_are_within}
use Rattle.td_front_facts.proofs.laws.depths_are_within.Goals as goal

pub returns : goal.returns
returns c = depths_are_within
