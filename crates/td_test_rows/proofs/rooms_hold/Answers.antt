use Rattle.std.proofs.Common.{refl}
use Rattle.td_test_rows.proofs.rooms_hold.Goals as goal

pub returns : goal.returns
returns c = refl
