use Rattle.td_prog_runs.proofs.Sound.{sound_code_in_parts}
use Rattle.td_prog_runs.proofs.laws.sound_code_in_parts.Goals as goal

pub returns : goal.returns
returns c = sound_code_in_parts c.sound_code_is_safe.ensures c.run_answers.ensures c.turn_takes.ensures c.code_in_parts.ensures
