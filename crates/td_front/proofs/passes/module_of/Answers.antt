use Rattle.std.proofs.Common.{ap, Err}
use Rattle.td_front.proofs.Memory.{elaboration_memory}
use Rattle.td_front.proofs.passes.module_of.Goals as goal
use Rattle.td_num.proofs.Equals.{same_error}

pub returns-in-Err-clause-memory : goal.returns-in-Err-clause-memory
returns-in-Err-clause-memory c =
    λ same. c.in-Err.ensures.memory (ap Err (elaboration_memory c.in-Err.error c.from.result c.from.ensures (same_error _ _ same)))
