use Rattle.std.proofs.Common.{arith}
use Rattle.td_job_host.proofs.fields.check_first.Goals as goal

pub returns-clause-words : goal.returns-clause-words
returns-clause-words c = omega (arith, c.div_ceil.ensures, c.in_ok-bytes.ensures.ok.1)
