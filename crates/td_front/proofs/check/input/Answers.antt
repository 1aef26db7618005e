use Rattle.std.proofs.Common.{ap, Err}
use Rattle.td_front.proofs.Answering.{of_tokens}
use Rattle.td_front.proofs.Memory.{parsing_memory, has_token}
use Rattle.td_front.proofs.check.input.Goals as goal
use Rattle.td_num.proofs.Equals.{same_error}

pub returns-in-Err-clause-refused : goal.returns-in-Err-clause-refused
returns-in-Err-clause-refused c =
    of_tokens c.args.text.now c.args.tokens.now c.requires.tokens c.in-Err.error (λ place same. c.in-Err.ensures.refused place (ap Err same)) (λ place same. c.in-Err.ensures.deep place (ap Err same)) c.of_parsing.result c.of_parsing.ensures

pub returns-in-Err-clause-memory : goal.returns-in-Err-clause-memory
returns-in-Err-clause-memory c =
    λ same.
    let told = c.in-Err.ensures.memory (ap Err (parsing_memory c.args.text.now c.args.tokens.now c.in-Err.error c.of_parsing.result c.of_parsing.ensures (same_error _ _ same))) in
    has_token c.args.text.now c.args.tokens.now c.requires.tokens told.0
