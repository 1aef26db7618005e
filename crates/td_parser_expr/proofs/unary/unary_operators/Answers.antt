use Rattle.std.proofs.Common.{sym, ◌∙◌, refl}
use Rattle.td_grammar.specs.Grammar.{all_of}
use Rattle.td_grammar.specs.Operators.{unary_operator}
use Rattle.td_grammar.proofs.Loops.{loop_more, loop_done}
use Rattle.td_grammar.proofs.Levels.{unary_word}
use Rattle.td_parser_expr.proofs.unary.unary_operators.Goals as goal

pub loop-rest-preserved : goal.loop-rest-preserved
loop-rest-preserved c =
    rw (c.in_ok-push.ensures.items) (loop_more unary_operator unary_word refl c.loop-rest.operators.items c.loop-rest.rest.now ((all_of unary_operator).reader.read c.args.tokens.now)
    (c.in_ok-operator.operator, c.in_ok-operator.at) c.in_ok-operator.after.now (sym c.peek_is_unary.ensures ∙ c.loop-rest-test.true) c.in_ok-operator.ensures c.loop-rest.invariant)

pub returns : goal.returns
returns c = loop_done unary_operator unary_word refl c.loop-rest.operators.items c.loop-rest.rest.now ((all_of unary_operator).reader.read c.args.tokens.now) (sym c.peek_is_unary.ensures ∙ c.loop-rest-test.false) c.loop-rest.invariant
