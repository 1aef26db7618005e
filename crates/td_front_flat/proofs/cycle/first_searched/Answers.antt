use Rattle.std.proofs.Common.{◌≡◌, length, refl, sym, ap, subst, ◌∙◌, arith}
use Rattle.std.proofs.lemmas.Option.{slice_get_read}
use Rattle.td_front_flat.specs.Order.{NoneCyclicIn}
use Rattle.td_front_flat.specs.Firsts.{IsFirstUse, listed_at, list_or_none}
use Rattle.td_front_flat.proofs.Nones.{parts_more, parts_all}
use Rattle.td_front_flat.proofs.cycle.first_searched.Goals as goal

pub loop-part-preserved : goal.loop-part-preserved
loop-part-preserved c =
    let names = c.args.names.now in
    let graph = c.args.graph.now in
    let all = c.args.all.now in
    let part = c.loop-part.part in
    let uses = c.as_slice-uses.result.now in
    let there = slice_get_read all (length all) part c.index-all-part.result refl c.loop-part-test.true c.index-all-part.is in
    let listed : uses ≡ listed_at all part = c.as_slice-uses.ensures ∙ sym (ap list_or_none there) in
    let none : NoneCyclicIn names graph part uses = subst (λ o. IsFirstUse names graph part uses o) c.in_default.is (c.in_ok-at.ensures {u = tt}) in
    record {
      within = omega arith;
      before = parts_more names graph all part c.loop-part.invariant.before (subst (λ us. NoneCyclicIn names graph part us) listed none);
    }

pub returns : goal.returns
returns c = parts_all c.args.names.now c.args.graph.now c.args.all.now c.loop-part.part c.loop-part-test.false c.loop-part.invariant.before
