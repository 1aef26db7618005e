use Rattle.td_cli.proofs.Answering.{one_answer}
use Rattle.td_cli.proofs.laws.one_answer.Goals as goal

pub returns : goal.returns
returns c =
    one_answer c.tokens_are_the_splitting.ensures.tokens c.one_tree.ensures c.one_answer_each.ensures.one_module c.one_answer_each-2.ensures.one_job c.one_message_each.ensures c.one_named_answer_each.ensures.one_job c.runs_are_one.ensures c.some_message_carries.ensures c.code_is_one.ensures.one_listing c.code_is_one.ensures.one_packed
