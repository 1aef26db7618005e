-- Parts of productions are exact.
use Rattle.std.proofs.Common.{refl}
use Rattle.td_ast.specs.declared.token.TokenKind.TheVariants as kinds
use Rattle.td_grammar.specs.Expressions.{expr}
use Rattle.td_grammar.specs.Parameters.{param}
use Rattle.td_grammar.proofs.Exact.{IsExact}
use Rattle.td_grammar.proofs.Making.{making_exact}
use Rattle.td_grammar.proofs.Words.{terminal_exact, sequel}
use Rattle.td_grammar.proofs.Scanned.{expr_exact}
use Rattle.td_grammar.proofs.Defs.{param_exact}
use Rattle.td_parser_parts.specs.Pieces.{next_argument, next_param}

pub next_argument_exact : IsExact next_argument
unfolding expr
next_argument_exact = making_exact _ _ (sequel (terminal_exact kinds.Comma refl) expr_exact refl)

pub next_param_exact : IsExact next_param
unfolding param
next_param_exact = making_exact _ _ (sequel (terminal_exact kinds.Comma refl) param_exact refl)
