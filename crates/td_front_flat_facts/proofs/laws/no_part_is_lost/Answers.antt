use Rattle.td_front_flat_facts.proofs.Whole.{no_part_is_lost}
use Rattle.td_front_flat_facts.proofs.laws.no_part_is_lost.Goals as goal

pub returns : goal.returns
returns c = no_part_is_lost
