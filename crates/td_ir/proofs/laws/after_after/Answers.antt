use Rattle.td_ir.proofs.Blocks.{after_after}
use Rattle.td_ir.proofs.laws.after_after.Goals as goal

pub returns : goal.returns
returns c = after_after
