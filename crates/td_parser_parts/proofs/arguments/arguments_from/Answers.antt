use Rattle.std.proofs.Common.{◌≡◌, false, ◌∙◌, sym, refl}
use Rattle.std.proofs.lemmas.Result.{err_from_is_err_and}
use Rattle.td_grammar.specs.Reading.{with_first}
use Rattle.td_grammar.specs.Grammar.{all_of}
use Rattle.td_parser_parts.specs.Pieces.{next_argument}
use Rattle.td_parser_parts.proofs.Pieces.{next_argument_exact}
use Rattle.td_grammar.proofs.Loops.{loop_more, loop_shorter, loop_done}
use Rattle.td_parser_expr.proofs.Loops.{loop_fails}
use Rattle.td_parser_parts.proofs.arguments.arguments_from.Goals as goal

solid : next_argument.reader.may_be_empty ≡ false
solid = refl

pub returns-in_err-next : goal.returns-in_err-next
returns-in_err-next c =
    let p = err_from_is_err_and c.from_residual-in_err-next.result c.from_residual-in_err-next.ensures.1 in
    rw (p.1, p.2) (loop_fails next_argument next_argument_exact solid c.loop-alloc.arguments c.loop-alloc.rest.now (with_first c.args.first ((all_of next_argument).reader.read c.args.tokens.now)) c.in_err-next.field-0.0 (sym c.peek_is.ensures ∙ c.loop-alloc-test.true) c.in_err-next.ensures c.loop-alloc.invariant)

pub loop-alloc-smaller : goal.loop-alloc-smaller
loop-alloc-smaller c = loop_shorter next_argument next_argument_exact solid c.loop-alloc.arguments c.loop-alloc.rest.now (with_first c.args.first ((all_of next_argument).reader.read c.args.tokens.now)) c.in_ok-next.next c.in_ok-next.after.now c.in_ok-next.ensures

pub loop-alloc-preserved : goal.loop-alloc-preserved
loop-alloc-preserved c =
    rw (c.in_ok-push-2.ensures.ok) (loop_more next_argument next_argument_exact solid c.loop-alloc.arguments c.loop-alloc.rest.now (with_first c.args.first ((all_of next_argument).reader.read c.args.tokens.now)) c.in_ok-next.next c.in_ok-next.after.now (sym c.peek_is.ensures ∙ c.loop-alloc-test.true) c.in_ok-next.ensures c.loop-alloc.invariant)

pub returns : goal.returns
returns c = loop_done next_argument next_argument_exact solid c.loop-alloc.arguments c.loop-alloc.rest.now (with_first c.args.first ((all_of next_argument).reader.read c.args.tokens.now)) (sym c.peek_is.ensures ∙ c.loop-alloc-test.false) c.loop-alloc.invariant
