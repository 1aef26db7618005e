use Rattle.td_verify_lowered.proofs.Modules.{accepted}
use Rattle.td_verify_lowered.proofs.laws.modules_are_accepted.Goals as goal

pub returns : goal.returns
returns c = accepted
