use Rattle.std.proofs.Common.{refl}
use Rattle.td_test_rows.proofs.safety_holds.Goals as goal

pub returns : goal.returns
returns c = refl
