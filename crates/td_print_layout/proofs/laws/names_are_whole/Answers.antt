use Rattle.td_print_layout.proofs.Dots.{name_text}
use Rattle.td_print_layout.proofs.laws.names_are_whole.Goals as goal

pub returns : goal.returns
returns c = name_text
