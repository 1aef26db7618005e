use Rattle.std.proofs.Common.{◌+◌, ◌-◌, length, sym, ◌∙◌, arith, length-take}
use Rattle.std.proofs.lemmas.Bool.{eqb-true, eq-eqb}
use Rattle.std.proofs.lemmas.List.{take_rest}
use Rattle.td_grammar.specs.declared.limits.TheConstants.{OPERATORS}
use Rattle.td_grammar.specs.Expressions as productions
use Rattle.td_grammar.proofs.Exprs.{nested_expr_exact}
use Rattle.td_parser_expr.proofs.Cut.{over_within, cut_got, cut_bad, owes_got_none, owes_bad_none, owes_deep, owes_got_some, owes_bad_some, scan_part}
use Rattle.td_parser_expr.proofs.whole.cut.Goals as goal

pub overflow_sub-len : goal.overflow_sub-len
overflow_sub-len c = over_within (productions.nested_expr OPERATORS) (nested_expr_exact OPERATORS) c.args.tokens.now c.args.over.now (scan_part c.args.tokens.now c.args.over.now c.requires.end)

pub slice_bounds-expr-end : goal.slice_bounds-expr-end
slice_bounds-expr-end c = grind (arith, length-take, c.requires.some, over_within (productions.nested_expr OPERATORS) (nested_expr_exact OPERATORS) c.args.tokens.now c.args.over.now (scan_part c.args.tokens.now c.args.over.now c.requires.end))

pub overflow_sub-result : goal.overflow_sub-result
overflow_sub-result c = cut_got (productions.nested_expr OPERATORS) (nested_expr_exact OPERATORS) c.args.tokens.now c.args.over.now (scan_part c.args.tokens.now c.args.over.now c.requires.end) c.requires.some c.in-Ok.e c.in-Ok.rest.now c.in-Ok.ensures

pub overflow_sub-result-in-Err-Unexpected : goal.overflow_sub-result-in-Err-Unexpected
overflow_sub-result-in-Err-Unexpected c = cut_bad (productions.nested_expr OPERATORS) (nested_expr_exact OPERATORS) c.args.tokens.now c.args.over.now (scan_part c.args.tokens.now c.args.over.now c.requires.end) c.requires.some c.in-Err-Unexpected.rest.now (rw c.in-Err-Unexpected.field-0-is at c.in-Err-Unexpected.ensures)

pub returns-then-is_empty : goal.returns-then-is_empty
returns-then-is_empty c = owes_got_none (productions.nested_expr OPERATORS) (nested_expr_exact OPERATORS) c.args.tokens.now c.args.over.now (scan_part c.args.tokens.now c.args.over.now c.requires.end) c.requires.some c.in-Ok.e c.in-Ok.rest.now (eqb-true _ _ (sym c.is_empty.ensures ∙ c.if-is_empty.true)) c.in-Ok.ensures

pub returns-then-is_empty-2 : goal.returns-then-is_empty-2
returns-then-is_empty-2 c = owes_bad_none (productions.nested_expr OPERATORS) (nested_expr_exact OPERATORS) c.args.tokens.now c.args.over.now (scan_part c.args.tokens.now c.args.over.now c.requires.end) c.requires.some c.in-Err-Unexpected.rest.now (eqb-true _ _ (sym c.is_empty-in-Err-Unexpected.ensures ∙ c.if-is_empty-2.true)) (rw c.in-Err-Unexpected.field-0-is at c.in-Err-Unexpected.ensures)

pub returns-in-Err-TooDeep : goal.returns-in-Err-TooDeep
returns-in-Err-TooDeep c = owes_deep (productions.nested_expr OPERATORS) (nested_expr_exact OPERATORS) c.args.tokens.now c.args.over.now (scan_part c.args.tokens.now c.args.over.now c.requires.end) c.requires.some _ (rw c.in-Err-TooDeep.field-0-is at c.in-Err-TooDeep.ensures)

pub returns-else-is_empty : goal.returns-else-is_empty
returns-else-is_empty c = rw (take_rest c.args.tokens.now (length c.args.tokens.now - length c.args.over.now + 1 - length c.in-Ok.rest.now))
    (owes_got_some (productions.nested_expr OPERATORS) (nested_expr_exact OPERATORS) c.args.tokens.now c.args.over.now (scan_part c.args.tokens.now c.args.over.now c.requires.end) c.requires.some c.in-Ok.e c.in-Ok.rest.now
    (λ z. cc (eq-eqb (length c.in-Ok.rest.now) 0 z, sym c.is_empty.ensures ∙ c.if-is_empty.false)) c.in-Ok.ensures)

pub returns-else-is_empty-2 : goal.returns-else-is_empty-2
returns-else-is_empty-2 c = rw (take_rest c.args.tokens.now (length c.args.tokens.now - length c.args.over.now + 1 - length c.in-Err-Unexpected.rest.now))
    (owes_bad_some (productions.nested_expr OPERATORS) (nested_expr_exact OPERATORS) c.args.tokens.now c.args.over.now (scan_part c.args.tokens.now c.args.over.now c.requires.end) c.requires.some c.in-Err-Unexpected.rest.now
    (λ z. cc (eq-eqb (length c.in-Err-Unexpected.rest.now) 0 z, sym c.is_empty-in-Err-Unexpected.ensures ∙ c.if-is_empty-2.false)) (rw c.in-Err-Unexpected.field-0-is at c.in-Err-Unexpected.ensures))
