use Rattle.td_arith.proofs.Sizes.{sizes_hold}
use Rattle.td_arith.proofs.laws.sizes_hold.Goals as goal

pub returns : goal.returns
returns c = sizes_hold
