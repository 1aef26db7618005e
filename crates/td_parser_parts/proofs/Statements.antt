-- The reader of statements, one brace deeper.
use Rattle.std.proofs.Common.{◌≡◌, ℕ, zero, suc, List, refl}
use Rattle.td_ast.specs.declared.token.Token.{Token}
use Rattle.td_grammar.specs.Actions.{statement_within}
use Rattle.td_parser_parts.specs.Actions.{statement_at}

pub same_statement : (n : ℕ) (tokens : List Token) → (statement_within n).reader.read tokens ≡ (statement_at n).reader.read tokens
unfolding statement_within
same_statement zero tokens = refl
same_statement (suc n) tokens = refl
