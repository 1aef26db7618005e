use Rattle.td_job.proofs.Texts.{some_bytes}
use Rattle.td_job.proofs.run_job.parsed_job.Goals as goal

pub returns-clause-memory : goal.returns-clause-memory
returns-clause-memory c = λ memory. some_bytes c.args.bytes.now _ c.in_ok-job.ensures.ok
