use Rattle.std.proofs.Common.{◌≡◌, ℕ, suc, sym, ap, ◌∙◌}
use Rattle.td_lower_blocks.specs.Constructs.{steps, Arguments, BySize}
use Rattle.td_lower_blocks.specs.Lowered.{arguments, filling_step, expr_of, evenly, each_inner}
use Rattle.td_lower_emit.specs.Emission.{laid}
use Rattle.td_expr.specs.Same.{constant_of}
use Rattle.std.specs.Prelude.{None}
use Rattle.td_lower_emit.specs.Emission.{WritesSteps}
use Rattle.td_lower_emit.proofs.arrays.write_filling.Goals as goal

pub returns-in_ok-write_filling_value-in-None : goal.returns-in_ok-write_filling_value-in-None
returns-in_ok-write_filling_value-in-None c = λ x k.
    let T = c.args.t in
    let a0 = c.args.code.now in
    let element = c.args.element.now in
    let size = c.args.size.now in
    let site = c.args.site in
    let step = c.args.step in
    let u = c.in_ok-u.u in
    let y1 = c.write_arguments.new.code in
    let y2 = c.write_filling_value.new.code in
    let own = λ (m : ℕ). BySize m site (expr_of size) (evenly T step m site (each_inner T element (suc m) site)) k in
    let w1 : WritesSteps a0 y1 (Arguments (suc T) (arguments element)) = c.in_ok-u.ensures.written in
    let w2 : WritesSteps y1 y2 (BySize u site (expr_of size) (evenly T step u site (each_inner T element (suc u) site))) = c.in_ok-write_filling_value-in-None.ensures in
    let none : constant_of size ≡ None = sym c.constant_of.ensures ∙ c.in-None.is in
    w2 x k
    ∙ (w1 x (own u)
    ∙ (ap (λ m. laid a0 x (steps (Arguments (suc T) (arguments element) (own m)))) c.in_ok-u.ensures.next
    ∙ ap (λ o. laid a0 x (steps (filling_step T o step element size site k))) (sym none)))
