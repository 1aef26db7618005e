use Rattle.td_job_host.proofs.Jobs.{always_one}
use Rattle.td_job_host.proofs.laws.job_or_fault.Goals as goal

pub returns : goal.returns
returns c = always_one c.module_or_refusal.ensures
