use Rattle.td_ir.proofs.Blocks.{run_goes}
use Rattle.td_ir.proofs.laws.run_goes.Goals as goal

pub returns : goal.returns
returns c = run_goes
