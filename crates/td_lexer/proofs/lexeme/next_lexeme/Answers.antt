use Rattle.std.proofs.Common.{subst, sym, length}
use Rattle.std.proofs.lemmas.Result.{IfOk-weaker}
use Rattle.td_lexer.specs.ScanSteps.{IsWithin}
use Rattle.td_lexer.specs.declared.lexeme.Lexeme.{Lexeme}
use Rattle.td_lexer.proofs.Within.{lexeme_within}
use Rattle.td_lexer.proofs.lexeme.next_lexeme.Goals as goal

pub returns-clause-within : goal.returns-clause-within
returns-clause-within c = IfOk-weaker c.first_lexeme.result _ _ (λ p h. subst (λ (q : Lexeme). IsWithin (length c.args.bytes.now) q) (sym h) (lexeme_within c.args.bytes.now c.requires.0)) c.first_lexeme.ensures.lexeme
