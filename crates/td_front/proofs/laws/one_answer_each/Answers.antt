use Rattle.td_front.proofs.laws.one_answer_each.Goals as goal

pub returns : goal.returns
returns c = record {
  one_module = c.texts_are_answered.ensures.one_module;
  one_refusal = c.texts_are_answered.ensures.one_refusal;
  never_both = c.texts_are_answered.ensures.never_both;
}
