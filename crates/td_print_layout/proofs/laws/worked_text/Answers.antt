use Rattle.std.proofs.Common.{refl}
use Rattle.std.specs.Fmt.{digits}
use Rattle.td_print_layout.proofs.laws.worked_text.Goals as goal

pub returns : goal.returns
unfolding digits
returns c = refl
