use Rattle.std.proofs.Common.{ap, Err}
use Rattle.td_front.proofs.Counts.{few_tokens}
use Rattle.td_front.proofs.Answering.{of_bytes}
use Rattle.td_front.proofs.Memory.{lexing_memory}
use Rattle.td_front.proofs.check.tokens.Goals as goal
use Rattle.td_num.proofs.Equals.{same_error}

pub returns-in-Ok-clause-few : goal.returns-in-Ok-clause-few
returns-in-Ok-clause-few c = few_tokens c.args.text.now 0 0 c.in-Ok.tokens.items c.in-Ok.ensures.answer

pub returns-in-Err-clause-refused : goal.returns-in-Err-clause-refused
returns-in-Err-clause-refused c = of_bytes c.args.text.now c.in-Err.error c.from.result c.from.ensures c.in-Err.ensures.cause

pub returns-in-Err-clause-memory : goal.returns-in-Err-clause-memory
returns-in-Err-clause-memory c =
    λ same. c.in-Err.ensures.memory (ap Err (lexing_memory c.in-Err.error c.from.result c.from.ensures (same_error _ _ same)))
