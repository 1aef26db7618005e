use Rattle.std.proofs.Common.{sym, ◌∙◌, refl}
use Rattle.std.proofs.lemmas.Result.{err_from_is_err_and}
use Rattle.td_parser.specs.Pieces.{items}
use Rattle.td_parser.proofs.Items.{items_begin, first_stopped, items_end, items_more, items_shorter, items_stopped}
use Rattle.td_parser.proofs.enums.items.Goals as goal

pub returns-in_err-first : goal.returns-in_err-first
returns-in_err-first c =
    let p = err_from_is_err_and c.from_residual.result c.from_residual.ensures.1 in
    rw (p.1, p.2) (first_stopped c.in_err-first.field-0.0 c.args.tokens.now c.in_err-first.ensures)

pub loop-alloc-init : goal.loop-alloc-init
loop-alloc-init c = rw (c.in_ok-push.ensures.ok, c.new-items.ensures) (items_begin c.args.tokens.now c.in_ok-first.first c.in_ok-first.rest.now c.in_ok-first.ensures)

pub returns-in_err-next : goal.returns-in_err-next
returns-in_err-next c =
    let p = err_from_is_err_and c.from_residual-in_err-next.result c.from_residual-in_err-next.ensures.1 in
    rw (p.1, p.2) (items_stopped c.loop-alloc.items c.loop-alloc.rest.now (items.reader.read c.args.tokens.now) (sym c.peek_is.ensures ∙ c.loop-alloc-test.true) c.loop-alloc.invariant c.in_err-next.field-0.0 c.in_err-next.ensures)

pub returns-in_default : goal.returns-in_default
returns-in_default c =
    items_end c.loop-alloc.items c.loop-alloc.rest.now (items.reader.read c.args.tokens.now) (sym c.peek_is.ensures ∙ c.loop-alloc-test.true) c.loop-alloc.invariant c.in_ok-next.after.now (rw c.in_default.is at c.in_ok-next.ensures)

pub loop-alloc-smaller : goal.loop-alloc-smaller
loop-alloc-smaller c =
    items_shorter c.loop-alloc.items c.loop-alloc.rest.now (items.reader.read c.args.tokens.now) (sym c.peek_is.ensures ∙ c.loop-alloc-test.true) c.loop-alloc.invariant c.in_ok-next.next c.in_ok-next.after.now c.in_ok-next.ensures

pub loop-alloc-preserved : goal.loop-alloc-preserved
loop-alloc-preserved c =
    rw (c.in_ok-push-2.ensures.ok) (items_more c.loop-alloc.items c.loop-alloc.rest.now (items.reader.read c.args.tokens.now) (sym c.peek_is.ensures ∙ c.loop-alloc-test.true) c.loop-alloc.invariant c.in-Some.next c.in_ok-next.after.now (rw c.in-Some.is at c.in_ok-next.ensures))
