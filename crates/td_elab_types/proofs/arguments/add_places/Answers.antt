use Rattle.std.proofs.Common.{ap, ◌∙◌, ◌+◌, [], ◌∷◌, ◌++◌, append_assoc}
use Rattle.td_num.specs.Numbers.{places_from}
use Rattle.td_elab_types.proofs.Places.{places-push}
use Rattle.td_elab_types.proofs.arguments.add_places.Goals as goal

pub loop-offset-preserved : goal.loop-offset-preserved
loop-offset-preserved c =
    let l = c.loop-offset in
    let before = c.args.cells.now in
    let first = c.args.first in
    c.in_ok-push.ensures.ok
    ∙ ap (λ p. l.cells ++ p ∷ []) c.in_ok-place_after.ensures.place
    ∙ ap (λ cs. cs ++ (first + l.offset) ∷ []) l.invariant
    ∙ append_assoc before (places_from first l.offset) ((first + l.offset) ∷ [])
    ∙ ap (λ ps. before ++ ps) (places-push first l.offset)
