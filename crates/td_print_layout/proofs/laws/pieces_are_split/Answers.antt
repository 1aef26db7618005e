use Rattle.td_print_layout.proofs.Splitting.{split_law}
use Rattle.td_print_layout.proofs.laws.pieces_are_split.Goals as goal

pub returns : goal.returns
returns c = split_law
