use Rattle.td_job.specs.Jobs.{later_faults}
use Rattle.td_job.proofs.Unique.{one_run_job, one_refusal_by, job_or_refusal}
use Rattle.td_job.proofs.laws.one_answer_each.Goals as goal

pub returns : goal.returns
returns c = record { one_job = one_run_job; one_fault = one_refusal_by later_faults; never_both = job_or_refusal }
