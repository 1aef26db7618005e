use Rattle.td_front.proofs.laws.parts_are_answered_flat.Goals as goal

pub returns-clause-parts : goal.returns-clause-parts
returns-clause-parts c = c.texts_are_answered.ensures.parts

pub returns-clause-alone : goal.returns-clause-alone
returns-clause-alone c = c.texts_are_answered.ensures.alone
