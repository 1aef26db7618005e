use Rattle.td_job.proofs.NamedJobs.{one_named_job, one_named_fault, named_or_fault}
use Rattle.td_job.proofs.laws.one_named_answer_each.Goals as goal

pub returns : goal.returns
returns c = record { one_job = one_named_job; one_fault = one_named_fault; never_both = named_or_fault }
