use Rattle.std.proofs.Common.{arith}
use Rattle.td_host.proofs.rings.rooms_and_takes.Goals as goal

pub returns-in-Ok-clause-space : goal.returns-in-Ok-clause-space
returns-in-Ok-clause-space c = let z = c.in-Ok.ensures.capacity in omega (arith, z)
