use Rattle.td_front.proofs.laws.module_or_refusal.Goals as goal

pub returns : goal.returns
returns c = c.texts_are_answered.ensures.always_one
