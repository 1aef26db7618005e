use Rattle.std.proofs.Common.{◌≡◌, false, ◌∙◌, sym, refl}
use Rattle.std.proofs.lemmas.Result.{err_from_is_err_and}
use Rattle.td_grammar.specs.Reading.{with_first}
use Rattle.td_grammar.specs.Grammar.{all_of}
use Rattle.td_grammar.specs.Fields.{field, type_tree}
use Rattle.td_grammar.proofs.Defs.{field_exact}
use Rattle.td_grammar.proofs.Loops.{loop_more, loop_shorter, loop_done}
use Rattle.td_parser_expr.proofs.Loops.{loop_fails}
use Rattle.td_parser_parts.proofs.fields.fields_from.Goals as goal

solid : field.reader.may_be_empty ≡ false
unfolding field type_tree
solid = refl

pub returns-in_err-next : goal.returns-in_err-next
unfolding field type_tree
returns-in_err-next c =
    let p = err_from_is_err_and c.from_residual-in_err-next.result c.from_residual-in_err-next.ensures.1 in
    rw (p.1, p.2) (loop_fails field field_exact solid c.loop-alloc.fields c.loop-alloc.rest.now (with_first c.args.first ((all_of field).reader.read c.args.tokens.now)) c.in_err-next.field-0.0 (sym c.peek_is_field.ensures ∙ c.loop-alloc-test.true) c.in_err-next.ensures c.loop-alloc.invariant)

pub loop-alloc-smaller : goal.loop-alloc-smaller
loop-alloc-smaller c = loop_shorter field field_exact solid c.loop-alloc.fields c.loop-alloc.rest.now (with_first c.args.first ((all_of field).reader.read c.args.tokens.now)) c.in_ok-next.next c.in_ok-next.after.now c.in_ok-next.ensures

pub loop-alloc-preserved : goal.loop-alloc-preserved
unfolding field type_tree
loop-alloc-preserved c =
    rw (c.in_ok-push-2.ensures.ok) (loop_more field field_exact solid c.loop-alloc.fields c.loop-alloc.rest.now (with_first c.args.first ((all_of field).reader.read c.args.tokens.now)) c.in_ok-next.next c.in_ok-next.after.now (sym c.peek_is_field.ensures ∙ c.loop-alloc-test.true) c.in_ok-next.ensures c.loop-alloc.invariant)

pub returns : goal.returns
unfolding field type_tree
returns c = loop_done field field_exact solid c.loop-alloc.fields c.loop-alloc.rest.now (with_first c.args.first ((all_of field).reader.read c.args.tokens.now)) (sym c.peek_is_field.ensures ∙ c.loop-alloc-test.false) c.loop-alloc.invariant
