use Rattle.std.proofs.Common.{inr}
use Rattle.td_image.specs.Image.{set}
use Rattle.td_image.proofs.Kept.{memory_weaker}
use Rattle.td_image.proofs.tables.set_of.Goals as goal

pub returns-clause-memory : goal.returns-clause-memory
unfolding set
returns-clause-memory c = memory_weaker c.elements_of.result _ _ (λ out. inr (c.in_ok-n.n, c.in_ok-n.rest.now, c.in_ok-n.ensures.read, out)) c.elements_of.ensures.memory
