use Rattle.td_c_tool.proofs.Answering.{one_answer}
use Rattle.td_c_tool.proofs.laws.one_answer.Goals as goal

pub returns : goal.returns
returns c = one_answer c.one_answer_each.ensures.one_module c.code_is_one.ensures.one_code
