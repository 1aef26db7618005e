use Rattle.td_c_tool.proofs.Answering.{always_one}
use Rattle.td_c_tool.proofs.laws.admitted_or_refused.Goals as goal

pub returns : goal.returns
returns c = always_one c.module_or_refusal.ensures
