use Rattle.td_meaning.proofs.parameters.places_below.Goals as goal
use Rattle.std.proofs.Common.{rules, ◌≡◌, ℕ, List, [], ◌∷◌, ◌++◌, ◌+◌, sym, ap, ◌∙◌, arith}
use Rattle.td_num.specs.Numbers.{places_from}
use Rattle.td_meaning.proofs.Steps.{places_more}

pub loop-place-preserved : goal.loop-place-preserved
loop-place-preserved c =
    let n = c.loop-place.place in
    let old : List ℕ = c.loop-place.places.items in
    let pushed : c.push.new.self.items ≡ old ++ n ∷ [] = search rules in
    let from : n ≡ 0 + n = omega arith in
    pushed ∙ ap (λ xs. xs ++ n ∷ []) c.loop-place.invariant ∙ ap (λ q. places_from 0 n ++ q ∷ []) from ∙ sym (places_more 0 n)
