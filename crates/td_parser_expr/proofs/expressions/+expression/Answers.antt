use Rattle.std.proofs.Common.{sym, ◌∙◌, arith}
use Rattle.td_parser_expr.specs.Tiers as tiers
use Rattle.td_parser_expr.proofs.Leaning.{lean_more, lean_shorter, lean_done, lean_stopped, same_expr, group_got}
use Rattle.td_parser_expr.proofs.expressions.+expression.Goals as goal

pub expr-returns : goal.expr-returns
expr-returns t c = rw (same_expr c.args.depth c.args.tokens.now) c.choice.ensures

pub group-returns : goal.group-returns
group-returns t c =
    rw (c.spanned.ensures, c.over-span.ensures) (group_got c.args.depth c.in_ok-opening.opening c.in_ok-inner.closing c.in_ok-inner.inner c.args.tokens.now c.in_ok-opening.rest.now c.in_ok-inner.rest.now
    (omega (arith, c.if-depth-eq0.false)) c.in_ok-opening.ensures c.in_ok-inner.ensures)

pub leaning-returns-in-Err : goal.leaning-returns-in-Err
leaning-returns-in-Err t c =
    lean_stopped c.args.tier c.args.depth c.loop-alloc.left c.loop-alloc.rest.now ((tiers.leaning_at c.args.tier (tiers.un_at c.args.depth)).reader.read c.args.tokens.now) c.loop-alloc.invariant
    c.in-Err.failure (sym c.peek_is_operator.ensures ∙ c.loop-alloc-test.true) c.in-Err.ensures

pub leaning-loop-alloc-smaller : goal.leaning-loop-alloc-smaller
leaning-loop-alloc-smaller t c =
    lean_shorter c.args.tier c.args.depth c.loop-alloc.left c.loop-alloc.rest.now ((tiers.leaning_at c.args.tier (tiers.un_at c.args.depth)).reader.read c.args.tokens.now) c.loop-alloc.invariant
    ((c.in-Ok.operator, c.in-Ok.at), c.in-Ok.right) c.in-Ok.after.now c.in-Ok.ensures

pub leaning-loop-alloc-preserved : goal.leaning-loop-alloc-preserved
leaning-loop-alloc-preserved t c =
    rw (c.in_ok-left-in-Ok.ensures) (lean_more c.args.tier c.args.depth c.loop-alloc.left c.loop-alloc.rest.now ((tiers.leaning_at c.args.tier (tiers.un_at c.args.depth)).reader.read c.args.tokens.now) c.loop-alloc.invariant
    ((c.in-Ok.operator, c.in-Ok.at), c.in-Ok.right) c.in-Ok.after.now (sym c.peek_is_operator.ensures ∙ c.loop-alloc-test.true) c.in-Ok.ensures)

pub leaning-returns : goal.leaning-returns
leaning-returns t c =
    lean_done c.args.tier c.args.depth c.loop-alloc.left c.loop-alloc.rest.now ((tiers.leaning_at c.args.tier (tiers.un_at c.args.depth)).reader.read c.args.tokens.now) c.loop-alloc.invariant
    (sym c.peek_is_operator.ensures ∙ c.loop-alloc-test.false)
