use Rattle.std.proofs.Common.{refl}
use Rattle.td_sched.proofs.Memory.{happens_from, planned_from}
use Rattle.td_sched.proofs.laws.planned_loads_happen.Goals as goal

pub returns : goal.returns
returns c = λ opening stores loads inside. (
  happens_from opening stores opening 0 loads refl inside,
  planned_from opening stores opening 0 loads refl inside,
)
