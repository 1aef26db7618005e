use Rattle.std.proofs.Common.{◌∙◌}
use Rattle.td_job.proofs.Members.{some_name}
use Rattle.td_job.proofs.checks.check_names.Goals as goal

pub returns-in_err-bytes-clause-memory : goal.returns-in_err-bytes-clause-memory
returns-in_err-bytes-clause-memory c = λ memory. some_name _ c.in-Some.name.now c.in-Some.ensures (λ none. let ok = c.in_err-bytes.ensures.memory (c.as_bytes.ensures.value ∙ none) in absurd (cc))
