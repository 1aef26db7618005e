use Rattle.td_job.proofs.NamedJobs.{always_one_named}
use Rattle.td_job.proofs.laws.named_job_or_fault.Goals as goal

pub returns : goal.returns
returns c = always_one_named
