use Rattle.td_lower_blocks.proofs.Laying.{laying_out}
use Rattle.td_lower_blocks.proofs.laws.laying_out.Goals as goal

pub returns : goal.returns
returns c = laying_out
