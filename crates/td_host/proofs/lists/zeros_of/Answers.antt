use Rattle.std.proofs.Common.{rules, ◌≡◌, ◌+◌, List, ℕ, ◌++◌, [], ◌∷◌, length, ap, ◌∙◌, arith, length-append}
use Rattle.std.proofs.lemmas.List.{replicate_more}
use Rattle.td_posts.specs.Posts.{zeros}
use Rattle.td_host.proofs.lists.zeros_of.Goals as goal

pub loop-preserved : goal.loop-preserved
loop-preserved c =
    let l = c.loop in
    let items = c.push_reserved.ensures.items in
    let n = ap length items ∙ length-append l.list.items (0 ∷ []) in
    record {
      zeros = items ∙ (ap (λ (xs : List ℕ). xs ++ 0 ∷ []) l.invariant.zeros ∙ replicate_more l.counter 0);
      count = omega (arith, n, l.invariant.count);
      memory = c.push_reserved.ensures.capacity ∙ l.invariant.memory;
    }

pub returns-clause-zeros : goal.returns-clause-zeros
returns-clause-zeros c =
    let all : c.loop.counter ≡ c.args.count = search (rules, arith) in
    c.loop.invariant.zeros ∙ ap zeros all
