use Rattle.std.proofs.Common.{sym, ◌∙◌, refl}
use Rattle.std.proofs.lemmas.Result.{err_from_is_err_and}
use Rattle.td_grammar.specs.Grammar.{all_of}
use Rattle.td_grammar.specs.Actions as productions
use Rattle.td_grammar.proofs.Loops.{loop_more, loop_shorter, loop_done}
use Rattle.td_grammar.proofs.Stmts.{statement_exact}
use Rattle.td_parser_expr.proofs.Loops.{loop_fails}
use Rattle.td_parser_parts.proofs.Statements.{same_statement}
use Rattle.td_parser_parts.proofs.actions.+statement.Goals as goal

pub statement-returns : goal.statement-returns
statement-returns t c = rw (same_statement c.args.braces c.args.tokens.now) c.any_statement.ensures

pub statements-returns-in_err-next : goal.statements-returns-in_err-next
statements-returns-in_err-next t c =
    let p = err_from_is_err_and c.from_residual.result c.from_residual.ensures.1 in
    rw (p.1, p.2) (loop_fails (productions.statement c.args.braces) (statement_exact c.args.braces) refl c.loop-alloc.block c.loop-alloc.rest.now ((all_of (productions.statement c.args.braces)).reader.read c.args.tokens.now)
    c.in_err-next.field-0.0 (sym c.peek_is_statement.ensures ∙ c.loop-alloc-test.true) c.in_err-next.ensures c.loop-alloc.invariant)

pub statements-loop-alloc-smaller : goal.statements-loop-alloc-smaller
statements-loop-alloc-smaller t c =
    loop_shorter (productions.statement c.args.braces) (statement_exact c.args.braces) refl c.loop-alloc.block c.loop-alloc.rest.now ((all_of (productions.statement c.args.braces)).reader.read c.args.tokens.now)
    c.in_ok-next.next c.in_ok-next.after.now c.in_ok-next.ensures

pub statements-loop-alloc-preserved : goal.statements-loop-alloc-preserved
statements-loop-alloc-preserved t c =
    rw (c.in_ok-push.ensures.ok) (loop_more (productions.statement c.args.braces) (statement_exact c.args.braces) refl c.loop-alloc.block c.loop-alloc.rest.now ((all_of (productions.statement c.args.braces)).reader.read c.args.tokens.now)
    c.in_ok-next.next c.in_ok-next.after.now (sym c.peek_is_statement.ensures ∙ c.loop-alloc-test.true) c.in_ok-next.ensures c.loop-alloc.invariant)

pub statements-returns : goal.statements-returns
statements-returns t c =
    loop_done (productions.statement c.args.braces) (statement_exact c.args.braces) refl c.loop-alloc.block c.loop-alloc.rest.now ((all_of (productions.statement c.args.braces)).reader.read c.args.tokens.now)
    (sym c.peek_is_statement.ensures ∙ c.loop-alloc-test.false) c.loop-alloc.invariant
