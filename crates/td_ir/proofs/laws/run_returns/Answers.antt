use Rattle.td_ir.proofs.Blocks.{run_returns}
use Rattle.td_ir.proofs.laws.run_returns.Goals as goal

pub returns : goal.returns
returns c = run_returns
