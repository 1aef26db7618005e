use Rattle.std.proofs.Common.{ap}
use Rattle.td_ring.specs.Ring.{PassState}
use Rattle.td_ring.proofs.RollHeads.{head_in}
use Rattle.td_ring.proofs.Moves.{settles_both, learns}
use Rattle.td_ring.proofs.ring.Ring.settle.Goals as goal

pub absorb-requires-clause-rule : goal.absorb-requires-clause-rule
absorb-requires-clause-rule g c = settles_both g.J.Naming.names _ _ _ _ c.pass.invariant.1 c.takes.invariant.1 (head_in _ _ (ap (λ (u : PassState). u.view.take_head) c.takes.view_is) c.requires.heads.1)

pub learn_as-requires-clause-rule : goal.learn_as-requires-clause-rule
learn_as-requires-clause-rule g c = learns g.J.Naming.names _ _
