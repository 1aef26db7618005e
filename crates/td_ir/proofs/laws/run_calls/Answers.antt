use Rattle.td_ir.proofs.Blocks.{run_calls}
use Rattle.td_ir.proofs.laws.run_calls.Goals as goal

pub returns : goal.returns
returns c = run_calls
