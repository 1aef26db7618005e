use Rattle.td_lexer.proofs.Splitting.{tokens_law, refusals_law}
use Rattle.td_lexer.proofs.laws.tokens_are_the_splitting.Goals as goal

pub returns-clause-tokens : goal.returns-clause-tokens
returns-clause-tokens c = tokens_law

pub returns-clause-refusals : goal.returns-clause-refusals
returns-clause-refusals c = refusals_law
