use Rattle.td_ir.proofs.Blocks.{run_fails}
use Rattle.td_ir.proofs.laws.run_fails.Goals as goal

pub returns : goal.returns
returns c = run_fails
