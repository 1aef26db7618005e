use Rattle.td_cli.proofs.Always.{always_one}
use Rattle.td_cli.proofs.laws.admitted_or_refused.Goals as goal

pub returns : goal.returns
returns c = always_one c.module_or_refusal.ensures c.rings_are_read_or_not.ensures c.job_or_fault.ensures c.job_or_fault-2.ensures c.some_message_each.ensures c.named_job_or_fault.ensures
