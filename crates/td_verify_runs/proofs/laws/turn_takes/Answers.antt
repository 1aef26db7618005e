use Rattle.td_verify_runs.proofs.Runs.{turn_takes}
use Rattle.td_verify_runs.proofs.laws.turn_takes.Goals as goal

pub returns : goal.returns
returns c = λ p message places n at behind s t code sound i is h l e. turn_takes p code (c.sound_code_is_safe.ensures p code sound) message places n at behind i is s t h l e
