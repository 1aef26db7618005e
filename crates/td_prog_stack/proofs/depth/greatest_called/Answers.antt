use Rattle.std.proofs.Common.{◌≡◌, ℕ, suc, ◌+◌, ◌-◌, ◌≤◌, max, slice_index, ap, ◌∙◌, arith}
use Rattle.td_verify.specs.Shape.{shapes_of}
use Rattle.td_verify.specs.Brackets.{shape_at}
use Rattle.td_vm.specs.Need.{called, greatest}
use Rattle.td_prog_stack.proofs.depth.greatest_called.Goals as goal

pub loop-at-preserved : goal.loop-at-preserved
loop-at-preserved c =
    let i = c.loop-at.invariant in
    let S = shapes_of c.args.parts.now in
    let from = c.args.from in
    let at = c.loop-at.at in
    let F = λ (m : ℕ). slice_index c.args.table.now m in
    let after : from ≤ at = c.loop-at.auto.at in
    let here : at ≡ from + (at - from) = omega (arith, after) in
    let next : suc (at - from) ≡ at + 1 - from = omega (arith, after) in
    record {
      is = c.greater-most.ensures ∙ ap (λ x. max x c.called_at.result) i.is ∙ ap (max (greatest S F from (at - from))) (c.called_at.ensures.is ∙ ap (λ p. called F (shape_at S p)) here) ∙ ap (greatest S F from) next;
      small = λ bound h. let a = i.small bound h in let b = c.called_at.ensures.small bound h in omega (arith, a, b, c.greater-most.ensures);
    }

pub returns-clause-is : goal.returns-clause-is
returns-clause-is c =
    let i = c.loop-at.invariant in
    let S = shapes_of c.args.parts.now in
    let from = c.args.from in
    let to : c.loop-at.at ≡ c.args.to = omega (arith, c.loop-at-test.false, c.loop-at.auto.at-end, c.requires.order) in
    i.is ∙ ap (λ x. greatest S (λ m. slice_index c.args.table.now m) from (x - from)) to
