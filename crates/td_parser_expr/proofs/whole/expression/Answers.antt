use Rattle.td_grammar.specs.Expressions.{expr}
use Rattle.td_parser_expr.proofs.Cut.{none_over}
use Rattle.td_parser_expr.proofs.whole.expression.Goals as goal

pub returns-in-None : goal.returns-in-None
unfolding expr
returns-in-None c = rw (none_over c.args.tokens.now c.in-None.ensures) c.expr.ensures
