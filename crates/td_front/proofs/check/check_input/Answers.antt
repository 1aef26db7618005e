use Rattle.td_front.proofs.Answering.{complete_from, exact_from, checked_from}
use Rattle.td_front.proofs.check.check_input.Goals as goal

pub returns-clause-complete : goal.returns-clause-complete
returns-clause-complete c =
    complete_from c.args.text.now c.one_answer_each.ensures.one_module c.one_answer_each.ensures.never_both c.check_passes.result c.check_passes.ensures.stands c.check_passes.ensures.refused

pub returns-clause-exact : goal.returns-clause-exact
returns-clause-exact c =
    exact_from c.args.text.now c.one_answer_each.ensures.one_refusal c.one_answer_each.ensures.never_both c.check_passes.result c.check_passes.ensures.stands c.check_passes.ensures.refused

pub returns-clause-checked : goal.returns-clause-checked
returns-clause-checked c = checked_from c.args.text.now c.modules_are_checked.ensures c.check_passes.result c.check_passes.ensures.stands
