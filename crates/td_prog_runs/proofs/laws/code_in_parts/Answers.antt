use Rattle.td_prog_runs.proofs.Sentence.{code_in_parts}
use Rattle.td_prog_runs.proofs.laws.code_in_parts.Goals as goal

pub returns : goal.returns
returns c = code_in_parts c.program_agrees.ensures
