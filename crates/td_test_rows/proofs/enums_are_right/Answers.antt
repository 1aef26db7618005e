use Rattle.std.proofs.Common.{refl}
use Rattle.td_test_rows.proofs.enums_are_right.Goals as goal

pub returns : goal.returns
returns c = refl
