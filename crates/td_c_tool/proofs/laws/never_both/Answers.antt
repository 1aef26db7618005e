use Rattle.td_c_tool.proofs.Answering.{never_both}
use Rattle.td_c_tool.proofs.laws.never_both.Goals as goal

pub returns : goal.returns
returns c = never_both c.one_answer_each.ensures.never_both c.one_answer_each.ensures.one_module
