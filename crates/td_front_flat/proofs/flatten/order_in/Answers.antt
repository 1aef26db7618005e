use Rattle.std.proofs.Common.{refl, subst, inr}
use Rattle.td_front_flat.specs.Firsts.{IsFirstPlace}
use Rattle.td_front_flat.proofs.flatten.order_in.Goals as goal

pub returns-in-Some-clause-err : goal.returns-in-Some-clause-err
returns-in-Some-clause-err c =
    inr (c.in-Some.span, refl, subst (λ o. IsFirstPlace c.args.names.now c.args.graph.now c.args.all.now o) c.in-Some.is c.in_ok-span.ensures)

pub returns-clause-ok : goal.returns-clause-ok
returns-clause-ok c =
    (subst (λ o. IsFirstPlace c.args.names.now c.args.graph.now c.args.all.now o) c.in_default.is c.in_ok-span.ensures, c.in_ok-order.ensures)
