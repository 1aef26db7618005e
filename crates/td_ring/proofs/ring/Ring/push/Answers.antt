use Rattle.std.proofs.Common.{◌∙◌}
use Rattle.td_ring.proofs.Moves.{posts, stands, posted_can}
use Rattle.td_ring.proofs.ring.Ring.push.Goals as goal

pub push_as-requires-clause-rule : goal.push_as-requires-clause-rule
push_as-requires-clause-rule g c = (posts g.J.Naming.names _ _ _ _ c.pass.invariant.1 c.requires.named, stands g.J.Naming.names _ _)

pub invariant_of-pass : goal.invariant_of-pass
invariant_of-pass g c = (c.push_as.ensures.queue.2 ∙ c.pass.invariant.0, posted_can _ _ _ _ c.push_as.result c.pass.invariant.1 c.push_as.ensures.rule)
