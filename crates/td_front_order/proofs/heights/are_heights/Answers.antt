use Rattle.std.proofs.Common.{sym, ap, subst, ◌∙◌, arith, ◌≡◌, true, nat_le}
use Rattle.std.specs.List.{list_all}
use Rattle.td_front_order.specs.Order.{used_by}
use Rattle.td_front_order.specs.Heights.{height}
use Rattle.td_front_order.proofs.Higher.{none_below, one_more, all_of_them}
use Rattle.td_front_order.proofs.heights.are_heights.Goals as goal

pub loop-number-preserved : goal.loop-number-preserved
loop-number-preserved c =
    let l = c.loop-number in
    let graph = c.args.graph.now in
    let heights = c.args.heights.now in
    let all : list_all (λ j. nat_le (height heights j) (height heights l.number)) (used_by graph l.number) ≡ true =
    ap (λ us. list_all (λ j. nat_le (height heights j) (height heights l.number)) us) (sym c.used_by.ensures)
    ∙ ap (λ m. list_all (λ j. nat_le (height heights j) m) c.used_by.result.now) (sym c.height_of.ensures)
    ∙ sym c.are_no_higher.ensures ∙ c.if-not-are_no_higher.false
    in
    record { within = omega (arith, c.loop-number-test.true); below = one_more graph heights l.number l.invariant.below all }

pub returns : goal.returns
returns c = λ e. all_of_them c.args.graph.now c.args.heights.now c.loop-number.number (omega (arith, c.loop-number-test.false)) c.loop-number.invariant.below
