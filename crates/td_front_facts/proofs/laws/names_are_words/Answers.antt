use Rattle.td_front_facts.proofs.Words.{names_are_words, plain_names_are_words}
use Rattle.td_front_facts.proofs.laws.names_are_words.Goals as goal

pub returns-clause-all : goal.returns-clause-all
returns-clause-all c =
    names_are_words c.names_are_written.ensures c.either_form.ensures.form c.names_stay_words.ensures c.names_are_spelled.ensures.words c.names_are_spelled.ensures.numbered

pub returns-clause-plain : goal.returns-clause-plain
returns-clause-plain c = plain_names_are_words c.names_are_written.ensures c.either_form.ensures.form
