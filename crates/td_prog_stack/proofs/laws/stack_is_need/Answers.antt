use Rattle.td_prog_stack.proofs.Chains.{stack_is_need}
use Rattle.td_prog_stack.proofs.laws.stack_is_need.Goals as goal

pub returns : goal.returns
returns c = stack_is_need c.sound_code_is_safe.ensures
