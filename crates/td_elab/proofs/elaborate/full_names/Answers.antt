use Rattle.std.proofs.Common.{List, ℕ, ◌<◌, [], ◌∷◌, ◌++◌, take, sym, subst, ◌∙◌}
use Rattle.std.proofs.lemmas.List.{take_more}
use Rattle.std.proofs.lemmas.Option.{get_or_from_slice_get}
use Rattle.td_elab.proofs.elaborate.full_names.Goals as goal

pub loop-number-preserved : goal.loop-number-preserved
loop-number-preserved c =
    let names : List (List ℕ) = c.args.names.now in
    let number : ℕ = c.loop-number.number in
    let name : List ℕ = c.name.result.now in
    let own = c.alone.ensures ∙ (c.in_ok-own.ensures.ok ∙ sym (get_or_from_slice_get names number name name c.name.ensures)) in
    c.in_ok-push.ensures.ok
    ∙ ((λ i. c.loop-number.invariant i ++ own i ∷ []) ∙ sym (take_more names number name (subst (λ (n : ℕ). number < n) c.len-number-end.ensures c.loop-number-test.true)))
