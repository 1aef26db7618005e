use Rattle.td_verify.proofs.Loops.{safe}
use Rattle.td_verify.proofs.laws.sound_code_is_safe.Goals as goal

pub returns : goal.returns
returns c = safe
