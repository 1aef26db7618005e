use Rattle.std.proofs.Common.{◌∙◌}
use Rattle.td_job.proofs.Members.{some_name}
use Rattle.td_job_host.proofs.rings.check_ring_names.Goals as goal

pub returns-in_err-name-clause-memory : goal.returns-in_err-name-clause-memory
returns-in_err-name-clause-memory c = λ memory. some_name _ c.in-Some.name.now c.in-Some.ensures (λ none. let ok = c.in_err-name.ensures.memory (c.as_bytes.ensures.value ∙ none) in absurd (cc))
