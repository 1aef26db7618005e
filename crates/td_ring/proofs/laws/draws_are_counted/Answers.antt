use Rattle.td_ring.proofs.Shares.{draws_are}
use Rattle.td_ring.proofs.laws.draws_are_counted.Goals as goal

pub returns : goal.returns
returns c = draws_are
