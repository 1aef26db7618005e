use Rattle.td_front_facts.proofs.Words.{spelled_names_are_apart}
use Rattle.td_front_facts.proofs.laws.spelled_names_are_apart.Goals as goal

pub returns : goal.returns
returns c =
    spelled_names_are_apart c.names_are_written.ensures c.names_are_apart.ensures c.either_form.ensures.form c.names_stay_words.ensures c.names_are_spelled.ensures.apart
