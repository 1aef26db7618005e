use Rattle.std.proofs.Common.{◌++◌, ◌∷◌, [], ap, ◌∙◌}
use Rattle.td_meaning_plain.proofs.Copied.{two_more}
use Rattle.td_meaning_plain.proofs.meaning.opened.Goals as goal

pub loop-k-preserved : goal.loop-k-preserved
loop-k-preserved c = c.in_ok-push-2.ensures.items ∙ ap (λ xs. xs ++ 0 ∷ []) c.in_ok-push.ensures.items ∙ two_more c.args.cells.now c.loop-k.all.items c.loop-k.k c.loop-k.invariant
