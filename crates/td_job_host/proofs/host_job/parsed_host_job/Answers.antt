use Rattle.td_job.proofs.Texts.{some_bytes}
use Rattle.td_job_host.proofs.host_job.parsed_host_job.Goals as goal

pub returns-clause-memory : goal.returns-clause-memory
returns-clause-memory c = λ memory. some_bytes c.args.bytes.now _ c.in_ok-job.ensures.ok
