use Rattle.td_arith.proofs.Evaluated.{evaluated_is_sound}
use Rattle.td_arith.proofs.laws.evaluated_is_sound.Goals as goal

pub returns : goal.returns
returns c = evaluated_is_sound
