use Rattle.std.proofs.Common.{◌≡◌, ◌*◌, [], ◌∷◌, ◌++◌, sym, ap, ◌∙◌, arith}
use Rattle.std.proofs.lemmas.List.{append-nil}
use Rattle.td_direct.proofs.Placed.{zeros, two_more}
use Rattle.td_direct.proofs.direct.opened_cells.Goals as goal

pub loop-k-init : goal.loop-k-init
loop-k-init c = c.in_ok-all.ensures.items ∙ sym (append-nil c.args.cells.now)

pub loop-k-preserved : goal.loop-k-preserved
loop-k-preserved c =
    c.in_ok-push-2.ensures.items ∙ ap (λ xs. xs ++ 0 ∷ []) c.in_ok-push.ensures.items
    ∙ two_more c.args.cells.now c.loop-k.k c.loop-k.all.items c.loop-k.invariant

pub returns : goal.returns
returns c =
    let all : c.loop-k.k ≡ c.args.buffers = omega (arith, c.loop-k-test.false, c.loop-k.auto.k-end) in
    c.loop-k.invariant ∙ ap (λ n. c.args.cells.now ++ zeros (2 * n)) all
