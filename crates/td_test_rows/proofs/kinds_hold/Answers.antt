use Rattle.std.proofs.Common.{refl}
use Rattle.td_kinds.specs.Kinds.{kinds_below}
use Rattle.td_test_rows.proofs.kinds_hold.Goals as goal

pub returns : goal.returns
unfolding kinds_below
returns c = refl
