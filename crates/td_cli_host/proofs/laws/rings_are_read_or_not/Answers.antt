use Rattle.td_cli_host.proofs.Ringed.{read_or_not}
use Rattle.td_cli_host.proofs.laws.rings_are_read_or_not.Goals as goal

pub returns : goal.returns
returns c = read_or_not c.module_or_refusal.ensures c.one_answer_each.ensures.one_module c.one_answer_each.ensures.never_both
