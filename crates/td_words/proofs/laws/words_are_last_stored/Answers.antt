use Rattle.td_words.proofs.LastStored.{word_is}
use Rattle.td_words.proofs.laws.words_are_last_stored.Goals as goal

pub returns : goal.returns
returns c = word_is
