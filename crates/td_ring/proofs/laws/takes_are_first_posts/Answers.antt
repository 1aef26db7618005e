use Rattle.td_ring.proofs.Shares.{takes_are}
use Rattle.td_ring.proofs.laws.takes_are_first_posts.Goals as goal

pub returns : goal.returns
returns c = takes_are
