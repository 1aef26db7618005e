use Rattle.td_prog_laws.proofs.PartsText.{parts_program_is_text}
use Rattle.td_prog_laws.proofs.laws.parts_program_is_text.Goals as goal

pub returns : goal.returns
returns c = parts_program_is_text c.program_is_text.ensures
