use Rattle.td_print_layout.proofs.Reading.{stay_tidy}
use Rattle.td_print_layout.proofs.laws.canonical_texts_stay.Goals as goal

pub returns : goal.returns
returns c = stay_tidy c.tokens_are_the_splitting.ensures.tokens c.one_tree.ensures c.canonical_texts_read_back.ensures c.same_text.ensures
