use Rattle.td_words.proofs.LastStored.{load_is}
use Rattle.td_words.proofs.laws.loads_are_last_stored.Goals as goal

pub returns : goal.returns
returns c = load_is
