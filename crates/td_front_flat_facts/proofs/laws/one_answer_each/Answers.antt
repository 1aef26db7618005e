use Rattle.td_front_flat_facts.proofs.Answers.{one_answer}
use Rattle.td_front_flat_facts.proofs.laws.one_answer_each.Goals as goal

pub returns : goal.returns
returns c = one_answer
