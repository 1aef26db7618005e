use Rattle.td_words.proofs.Fetches.{fetches}
use Rattle.td_words.proofs.laws.loads_were_opened_or_stored.Goals as goal

pub returns : goal.returns
returns c = λ h log told all. fetches h (log, told) all
