use Rattle.std.proofs.Common.{refl}
use Rattle.td_front_flat.proofs.laws.rows.Goals as goal

pub returns-clause-flat : goal.returns-clause-flat
returns-clause-flat c = refl

pub returns-clause-spelled : goal.returns-clause-spelled
returns-clause-spelled c = refl

pub returns-clause-cycle : goal.returns-clause-cycle
returns-clause-cycle c = (refl, (refl, (1, (0, refl, refl))), refl)
