use Rattle.td_front_flat_facts.proofs.Words.{names_stay_words}
use Rattle.td_front_flat_facts.proofs.laws.names_stay_words.Goals as goal

pub returns : goal.returns
returns c = names_stay_words
