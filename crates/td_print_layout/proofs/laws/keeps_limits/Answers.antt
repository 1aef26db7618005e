use Rattle.td_print_layout.proofs.Keeping.{input_keeps_limits}
use Rattle.td_print_layout.proofs.laws.keeps_limits.Goals as goal

pub returns : goal.returns
returns c = input_keeps_limits
