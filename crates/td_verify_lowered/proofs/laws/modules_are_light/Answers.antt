use Rattle.td_verify_lowered.proofs.Modules.{light}
use Rattle.td_verify_lowered.proofs.laws.modules_are_light.Goals as goal

pub returns : goal.returns
returns c = light
