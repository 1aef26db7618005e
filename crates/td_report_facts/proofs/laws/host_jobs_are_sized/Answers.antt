use Rattle.td_report_facts.proofs.Hosts.{host_jobs_are_sized}
use Rattle.td_report_facts.proofs.laws.host_jobs_are_sized.Goals as goal

pub returns : goal.returns
returns c = host_jobs_are_sized c.jobs_keep_limits.ensures
