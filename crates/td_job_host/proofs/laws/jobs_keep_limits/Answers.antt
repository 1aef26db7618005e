use Rattle.td_job_host.proofs.Serving.{keep_limits}
use Rattle.td_job_host.proofs.laws.jobs_keep_limits.Goals as goal

pub returns : goal.returns
returns c = keep_limits
