use Rattle.td_front.proofs.Memory.{handed_on}
use Rattle.td_front.proofs.check.check_passes.Goals as goal

pub returns-in_err-tokens-clause-memory : goal.returns-in_err-tokens-clause-memory
returns-in_err-tokens-clause-memory c = handed_on c.from_residual.result _ _ c.from_residual.ensures.1 c.in_err-tokens.ensures.memory

pub returns-in_err-input-clause-memory : goal.returns-in_err-input-clause-memory
returns-in_err-input-clause-memory c = handed_on c.from_residual-in_err-input.result _ _ c.from_residual-in_err-input.ensures.1 c.in_err-input.ensures.memory
