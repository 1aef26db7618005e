use Rattle.std.proofs.Common.{sym, ap, ◌∙◌, List}
use Rattle.td_ast.specs.declared.token.Span.{Span}
use Rattle.td_ast.specs.declared.expressions.UnaryOperator.{UnaryOperator}
use Rattle.td_grammar.specs.Expressions as productions
use Rattle.td_parser_expr.proofs.Leaning.{applied-push}
use Rattle.td_parser_expr.proofs.unary.applied.Goals as goal

pub loop-operator-preserved : goal.loop-operator-preserved
loop-operator-preserved c =
    rw (c.in_ok-expr.ensures) (sym (applied-push c.pop.new.self.items (c.in-Some.operator, c.in-Some.at) c.loop-operator.expr) ∙ (ap (λ (l : List (UnaryOperator × Span)). productions.applied l c.loop-operator.expr) (sym c.in-Some.ensures.items) ∙ c.loop-operator.invariant))
