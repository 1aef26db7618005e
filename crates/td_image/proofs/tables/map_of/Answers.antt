use Rattle.std.proofs.Common.{◌≡◌, ℕ, Ok, inr, subst}
use Rattle.td_image.specs.Image.{map_format, up_to}
use Rattle.td_image.proofs.Kept.{memory_weaker}
use Rattle.td_image.proofs.tables.map_of.Goals as goal

pub returns-clause-memory : goal.returns-clause-memory
unfolding map_format
returns-clause-memory c = memory_weaker c.numbers_of.result _ _ (λ out. inr (c.in_ok-n.n, c.in_ok-n.rest.now, subst (λ (m : ℕ). (up_to m).read c.args.bytes.now ≡ Ok (c.in_ok-n.n, c.in_ok-n.rest.now)) c.most_mapped.ensures c.in_ok-n.ensures.read, out)) c.numbers_of.ensures.memory
