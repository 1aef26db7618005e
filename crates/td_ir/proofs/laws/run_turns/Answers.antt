use Rattle.td_ir.proofs.Blocks.{run_turns}
use Rattle.td_ir.proofs.laws.run_turns.Goals as goal

pub returns : goal.returns
returns c = run_turns
