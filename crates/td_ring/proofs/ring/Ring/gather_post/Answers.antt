use Rattle.std.proofs.Common.{ap}
use Rattle.td_ring.specs.Ring.{PassState}
use Rattle.td_ring.proofs.RollHeads.{head_in}
use Rattle.td_ring.proofs.Moves.{gathers_put}
use Rattle.td_ring.proofs.ring.Ring.gather_post.Goals as goal

pub absorb-requires-clause-rule : goal.absorb-requires-clause-rule
absorb-requires-clause-rule g c = gathers_put g.J.Naming.names _ _ _ _ (head_in _ _ (ap (λ (u : PassState). u.view.put_head) c.pass.view_is) c.requires.head) c.other.invariant.1
