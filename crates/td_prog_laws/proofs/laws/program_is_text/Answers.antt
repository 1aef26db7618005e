use Rattle.td_prog_laws.proofs.Text.{program_is_text}
use Rattle.td_prog_laws.proofs.laws.program_is_text.Goals as goal

pub returns : goal.returns
returns c = program_is_text c.sound_code_is_safe.ensures c.turn_takes.ensures
