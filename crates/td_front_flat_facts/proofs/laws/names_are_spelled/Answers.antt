use Rattle.td_front_flat_facts.proofs.Spellings.{words_are_spelled_so, numbered_are_dotted, names_stay_apart}
use Rattle.td_front_flat_facts.proofs.laws.names_are_spelled.Goals as goal

pub returns-clause-words : goal.returns-clause-words
returns-clause-words c = words_are_spelled_so

pub returns-clause-numbered : goal.returns-clause-numbered
returns-clause-numbered c = numbered_are_dotted

pub returns-clause-apart : goal.returns-clause-apart
returns-clause-apart c = names_stay_apart
