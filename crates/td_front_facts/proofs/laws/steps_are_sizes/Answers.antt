use Rattle.td_front_facts.proofs.Stepped.{steps_are_sizes}
use Rattle.td_front_facts.proofs.laws.steps_are_sizes.Goals as goal

pub returns : goal.returns
returns c = steps_are_sizes
