use Rattle.std.proofs.Common.{◌≡◌, ℕ, ◌+◌, ◌-◌, ◌^◌, ◌<◌, ◌≤◌, ⊎_elim, ◌↔◌, max, List, [], Some, Bool, true, IsTrue, sym, ap, subst, ◌∙◌, arith}
use Rattle.std.proofs.lemmas.Bool.{cases_lt}
use Rattle.td_verify.specs.declared.shape.Shape.{Shape}
use Rattle.td_verify.specs.declared.shape.Shape.TheVariants.{Return}
use Rattle.td_verify.specs.Shape.{shapes_of}
use Rattle.td_verify.specs.Brackets.{shape_at, opened, innermost}
use Rattle.td_verify.specs.Marks.{IsEmptyBy, marked}
use Rattle.td_verify.specs.Ways.{CanReturn, IdleWay}
use Rattle.td_verify.specs.Flat.{IsFlat}
use Rattle.td_verify.specs.Rules.{deepest, weigh, own_weight, calls_deep, CallsWell}
use Rattle.td_verify.specs.Verify.{KeepsAll}
use Rattle.td_verify.specs.Findings.{IsFirstOrNone, IsKnown, KeepsNow}
use Rattle.td_verify.proofs.Flat.{flat_next, flat_none}
use Rattle.td_verify.proofs.Sums.{own_small_there, cost_small, weigh_next, deepest_next, calls_shallow}
use Rattle.td_verify.specs.declared.rule.Rule.TheVariants.{Target, Depth, Loop, Weight}
use Rattle.td_verify.specs.declared.routine.Known.{Known}
use Rattle.td_verify.specs.Rules
use Rattle.td_verify.proofs.routine.check_routine.Goals as goal

own_here : (k : Known) (n at : ℕ) (j : Shape) → IsKnown k n → j ≡ shape_at k.shapes.now at → own_weight k.weights.now j ≤ 1 + 2 ^ 40
own_here k n at j known e = subst (λ x. own_weight k.weights.now x ≤ 1 + 2 ^ 40) (sym (e ∙ ap (λ s. shape_at s at) known.shapes)) (own_small_there k.parts.now k.weights.now at known.weights)

-- one that breaks nothing leaves windows and loops as they may stand
flat_here : (k : Known) (n from end at : ℕ) → IsKnown k n → IsFlat (opened k.shapes.now at) → KeepsAll (KeepsNow k n from end at) → IsFlat (opened k.shapes.now (at + 1))
flat_here k n from end at known flat none =
    subst (λ s. IsFlat (opened s (at + 1))) (sym known.shapes)
    (flat_next (shapes_of k.parts.now) end at (subst (λ s. IsFlat (opened s at)) known.shapes flat) (none Loop).stands (none Target).leads)

calls_here : (k : Known) (n from end at : ℕ) (j : Shape) → IsKnown k n → j ≡ shape_at k.shapes.now at → KeepsAll (KeepsNow k n from end at) → CallsWell k.depths.now n j
calls_here k n from end at j known e none = subst (CallsWell k.depths.now n) (sym (e ∙ ap (λ s. shape_at s at) known.shapes)) (none Depth)

sound_more : (k : Known) (n from end at : ℕ) → ((p : ℕ) → from ≤ p → p < at → KeepsAll (KeepsNow k n from end p)) → KeepsAll (KeepsNow k n from end at) → (p : ℕ) → from ≤ p → p < at + 1 → KeepsAll (KeepsNow k n from end p)
sound_more k n from end at before here p h l = ⊎_elim
    (λ (lt : p < at). before p h lt)
    (λ (le : at ≤ p). let same : p ≡ at = omega arith in subst (λ q. KeepsAll (KeepsNow k n from end q)) (sym same) here)
    (cases_lt p at)

light_here : (k : Known) (n from end at w : ℕ) → IsKnown k n → w ≡ weigh k.shapes.now k.weights.now from (at + 1 - from) → KeepsAll (KeepsNow k n from end at) → w ≤ 2 ^ 40
light_here k n from end at w known e none = subst (λ x. x ≤ 2 ^ 40) (sym (e ∙ ap (λ s. weigh s k.weights.now from (at + 1 - from)) known.shapes)) (none Weight)

pub cost-requires-clause-own : goal.cost-requires-clause-own
cost-requires-clause-own c = own_here c.args.known.now c.args.n c.loop-at.at c.read-shape.result c.requires.known c.read-shape.ensures

pub overflow_add-weighs : goal.overflow_add-weighs
overflow_add-weighs c =
    let k = c.args.known.now in
    let now : c.context.result ≡ innermost (opened k.shapes.now c.loop-at.at) = c.context.ensures ∙ c.requires.known.contexts c.loop-at.at (omega (arith, c.requires)) in
    let e = c.cost.ensures (opened k.shapes.now c.loop-at.at) c.loop-at.invariant.flat now in
    let b = cost_small k.weights.now (opened k.shapes.now c.loop-at.at) c.read-shape.result (own_here k c.args.n c.loop-at.at c.read-shape.result c.requires.known c.read-shape.ensures) in
    let l = c.loop-at.invariant.light in
    omega arith

pub breach-requires-clause-weighs : goal.breach-requires-clause-weighs
breach-requires-clause-weighs c =
    let k = c.args.known.now in
    let now : c.context.result ≡ innermost (opened k.shapes.now c.loop-at.at) = c.context.ensures ∙ c.requires.known.contexts c.loop-at.at (omega (arith, c.requires)) in
    let e = c.cost.ensures (opened k.shapes.now c.loop-at.at) c.loop-at.invariant.flat now in
    let there = ap (Rules.cost k.weights.now (opened k.shapes.now c.loop-at.at)) c.read-shape.ensures in
    let w = c.loop-at.invariant.weight in
    let x = weigh_next k.shapes.now k.weights.now c.args.from c.loop-at.at (omega arith) in
    (ap (λ z. z + c.cost.result) w ∙ ap (λ z. weigh k.shapes.now k.weights.now c.args.from (c.loop-at.at - c.args.from) + z) (e ∙ there)) ∙ sym x

pub depth_of-requires : goal.depth_of-requires
depth_of-requires c =
    let k = c.args.known.now in
    let none : KeepsAll (KeepsNow k c.args.n c.args.from c.args.end c.loop-at.at) = subst (IsFirstOrNone (KeepsNow k c.args.n c.args.from c.args.end c.loop-at.at)) c.in_default.is c.breach.ensures.first in
    subst (λ x. CallsWell k.depths.now x c.read-shape.result) (sym c.requires.known.depths)
    (calls_here k c.args.n c.args.from c.args.end c.loop-at.at c.read-shape.result c.requires.known c.read-shape.ensures none)

pub loop-at-preserved : goal.loop-at-preserved
loop-at-preserved c =
    let k = c.args.known.now in
    let from = c.args.from in
    let at = c.loop-at.at in
    let none : KeepsAll (KeepsNow k c.args.n from c.args.end at) = subst (IsFirstOrNone (KeepsNow k c.args.n from c.args.end at)) c.in_default.is c.breach.ensures.first in
    let now : c.context.result ≡ innermost (opened k.shapes.now at) = c.context.ensures ∙ c.requires.known.contexts at (omega (arith, c.requires)) in
    let e = c.cost.ensures (opened k.shapes.now at) c.loop-at.invariant.flat now in
    let there = ap (Rules.cost k.weights.now (opened k.shapes.now at)) c.read-shape.ensures in
    let x = weigh_next k.shapes.now k.weights.now from at (omega arith) in
    let weighs : c.loop-at.spent + c.cost.result ≡ weigh k.shapes.now k.weights.now from (at + 1 - from) =
    (ap (λ z. z + c.cost.result) c.loop-at.invariant.weight ∙ ap (λ z. weigh k.shapes.now k.weights.now from (at - from) + z) (e ∙ there)) ∙ sym x in
    let deep = calls_shallow k.depths.now c.args.n c.read-shape.result (calls_here k c.args.n from c.args.end at c.read-shape.result c.requires.known c.read-shape.ensures none) in
    let y = deepest_next k.shapes.now k.depths.now from at (omega arith) in
    let d : calls_deep k.depths.now c.read-shape.result ≡ calls_deep k.depths.now (shape_at k.shapes.now at) = ap (calls_deep k.depths.now) c.read-shape.ensures in
    record {
      size = c.breach.ensures.size ∙ c.loop-at.invariant.size;
      flat = flat_here k c.args.n from c.args.end at c.requires.known c.loop-at.invariant.flat none;
      weight = weighs;
      light = light_here k c.args.n from c.args.end at (c.loop-at.spent + c.cost.result) c.requires.known weighs none;
      depth = c.max-deepest.ensures ∙ (ap (λ z. max z c.depth_of.result) c.loop-at.invariant.depth ∙ (ap (λ z. max (deepest k.shapes.now k.depths.now from (at - from)) z) (c.depth_of.ensures ∙ d) ∙ sym y));
      shallow = let m = c.max-deepest.ensures in let f = c.depth_of.ensures in let l = c.loop-at.invariant.shallow in omega (arith, m, f, l, deep);
      sound = sound_more k c.args.n from c.args.end at c.loop-at.invariant.sound none;
    }

returning : (s : List Shape) (E : ℕ → Type 0) (marks : List Bool) (from end : ℕ) (r : Bool) → from < end
    → ((q : ℕ) → from ≤ q → q ≤ end - 1 → ((marked marks q ≡ true) ↔ IdleWay s E from q))
    → (IsTrue r ↔ ((q : ℕ) × (from ≤ q) × (q < end) × (shape_at s q ≡ Return) × (marked marks q ≡ true)))
    → (r ≡ true) ↔ CanReturn s E from end
returning s E marks from end r some ways summary = (
  λ h. let w = summary.0 h in (w.0, w.1, w.2, w.3, (ways w.0 w.1 (omega (arith, w.2))).0 w.4),
  λ w. summary.1 (w.0, w.1, w.2, w.3, (ways w.0 w.1 (omega (arith, w.2))).1 w.4),
)

closed_here : (k : Known) (n from end : ℕ) → IsKnown k n → from < end → IsFlat (opened k.shapes.now end) → KeepsAll (KeepsNow k n from end (end - 1)) → opened k.shapes.now end ≡ Some []
closed_here k n from end known some flat none =
    flat_none (opened k.shapes.now end) flat (subst (λ s. Rules.IsOutside (opened s end)) (sym known.shapes) ((none Loop).closed (omega arith)))

pub returns-clause-ok : goal.returns-clause-ok
returns-clause-ok c =
    let k = c.args.known.now in
    let same : c.loop-at.at ≡ c.args.end = omega (arith, c.requires) in
    record {
      depth = ap (λ x. x + 1) (c.loop-at.invariant.depth ∙ ap (λ x. deepest k.shapes.now k.depths.now c.args.from (x - c.args.from)) same);
      shallow = let l = c.loop-at.invariant.shallow in omega arith;
      weight = c.loop-at.invariant.weight ∙ ap (λ x. weigh k.shapes.now k.weights.now c.args.from (x - c.args.from)) same;
      light = c.loop-at.invariant.light;
      empty = returning k.shapes.now (IsEmptyBy k.empties.now) c.mark.new.marks c.args.from c.args.end c.any_return.result c.requires.from c.mark.ensures.marked c.any_return.ensures;
      sound = λ p h l. c.loop-at.invariant.sound p h (omega (arith, same));
      closed = closed_here k c.args.n c.args.from c.args.end c.requires.known c.requires.from (subst (λ x. IsFlat (opened k.shapes.now x)) same c.loop-at.invariant.flat) (c.loop-at.invariant.sound (c.args.end - 1) (omega (arith, c.requires)) (omega (arith, c.requires, same)));
    }
