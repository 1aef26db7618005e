use Rattle.td_print_layout.proofs.Placeless.{same_text}
use Rattle.td_print_layout.proofs.laws.same_text.Goals as goal

pub returns : goal.returns
returns c = same_text
