use Rattle.std.proofs.Common.{sym, ap, ◌∙◌}
use Rattle.td_elab_actions.specs.Pieces.{onto}
use Rattle.td_elab_actions.proofs.Following.{onto-push}
use Rattle.td_elab_actions.proofs.actions.chained.Goals as goal

pub loop-piece-preserved : goal.loop-piece-preserved
loop-piece-preserved c =
    let left = c.pop.new.self.items in
    let l = c.loop-piece in
    ap (λ r. onto left r) c.in_ok-rest.ensures
    ∙ sym (onto-push left c.in-Some.piece l.rest)
    ∙ ap (λ ps. onto ps l.rest) (sym c.in-Some.ensures.items)
    ∙ l.invariant
