use Rattle.td_front_flat.proofs.Answered.{has_answer}
use Rattle.td_front_flat.proofs.laws.each_answered.Goals as goal

pub returns : goal.returns
returns c = has_answer
