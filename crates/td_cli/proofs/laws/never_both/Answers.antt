use Rattle.td_cli.proofs.Answering.{answered_admitted, never_both}
use Rattle.td_cli.proofs.laws.never_both.Goals as goal

pub returns : goal.returns
returns c = record {
  answered = answered_admitted;
  both = never_both c.one_answer_each.ensures.one_module c.one_answer_each.ensures.never_both c.one_answer_each-2.ensures.never_both c.one_answer_each-3.ensures.one_job c.one_answer_each-3.ensures.never_both c.one_message_each.ensures c.one_named_answer_each.ensures.never_both;
}
