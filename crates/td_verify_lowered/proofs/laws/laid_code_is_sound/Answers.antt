use Rattle.td_verify_lowered.proofs.Empties.{laid_sound}
use Rattle.td_verify_lowered.proofs.laws.laid_code_is_sound.Goals as goal

pub returns : goal.returns
returns c = laid_sound
