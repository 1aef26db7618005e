use Rattle.td_verify_lowered.proofs.Lowered.{lowered_sound}
use Rattle.td_verify_lowered.proofs.laws.lowered_code_is_sound.Goals as goal

pub returns : goal.returns
returns c = lowered_sound
