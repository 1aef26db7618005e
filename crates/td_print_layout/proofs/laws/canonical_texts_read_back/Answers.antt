use Rattle.td_print_layout.proofs.Reading.{read_back}
use Rattle.td_print_layout.proofs.laws.canonical_texts_read_back.Goals as goal

pub returns : goal.returns
returns c = read_back c.pieces_are_split.ensures c.reads_back.ensures c.keeps_limits.ensures c.keeps_spellings.ensures
