use Rattle.td_verify_lowered.proofs.Operands.{operands_fit}
use Rattle.td_verify_lowered.proofs.laws.operands_fit.Goals as goal

pub returns : goal.returns
returns c = operands_fit
