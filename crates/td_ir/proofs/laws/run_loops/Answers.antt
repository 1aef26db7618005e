use Rattle.td_ir.proofs.Blocks.{run_loops}
use Rattle.td_ir.proofs.laws.run_loops.Goals as goal

pub returns : goal.returns
returns c = run_loops
