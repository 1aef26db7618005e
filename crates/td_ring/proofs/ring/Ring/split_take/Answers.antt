use Rattle.std.proofs.Common.{ap}
use Rattle.td_ring.specs.Ring.{PassState}
use Rattle.td_ring.proofs.RollHeads.{head_in}
use Rattle.td_ring.proofs.Moves.{splits_take}
use Rattle.td_ring.proofs.ring.Ring.split_take.Goals as goal

pub another-requires-clause-rule : goal.another-requires-clause-rule
another-requires-clause-rule g c = splits_take g.J.Naming.names _ _ (head_in _ _ (ap (λ (u : PassState). u.view.take_head) c.pass.view_is) c.requires.head)
