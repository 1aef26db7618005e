use Rattle.std.proofs.Common.{◌≡◌, ℕ, suc, ◌+◌, ap, ◌∙◌, arith}
use Rattle.td_ir.specs.declared.instructions.Instr.TheVariants as i
use Rattle.td_lower_blocks.specs.Block.{Window}
use Rattle.td_lower_blocks.specs.Constructs.{value, inner, steps}
use Rattle.td_lower_blocks.specs.Lowered.{expr_of, exactly, one_inner}
use Rattle.td_lower_emit.specs.Emission.{laid, Writes, WritesInner, FinishesInner}
use Rattle.td_lower_emit.proofs.Writing.{window_written}
use Rattle.td_lower_emit.proofs.arrays.write_once_filling_value.Goals as goal

pub returns : goal.returns
returns c = λ x k.
    let a0 = c.args.code.now in
    let u = c.args.u in
    let E = expr_of c.args.size.now in
    let y1 = c.write_value.new.code in
    let y2 = c.write.new.self in
    let y3 = c.write_exactly.new.code in
    let y4 = c.write_one.new.code in
    let y5 = c.write-2.new.self in
    let all = λ (m : ℕ). exactly c.args.t c.args.step u c.args.site (one_inner c.args.t c.args.element.now m c.args.site) in
    let w1 : Writes a0 y1 (value u E) = c.in_ok-write_value.ensures in
    let w3 : WritesInner y2 y3 (exactly c.args.t c.args.step u c.args.site) = c.in_ok-write_exactly.ensures in
    let w4 : FinishesInner y3 y4 (one_inner c.args.t c.args.element.now (u + 1) c.args.site) = c.in_ok-write_one.ensures in
    let next : u + 1 ≡ suc u = omega arith in
    window_written y1 y2 y4 y5 (i.Narrow u c.args.site) c.args.site x (inner (all (u + 1))) (steps k) c.in_ok-write.ensures (w4 x ∙ w3 x (one_inner c.args.t c.args.element.now (u + 1) c.args.site)) c.in_ok-write-2.ensures
    ∙ (w1 x (Window (i.Narrow u c.args.site) c.args.site (inner (all (u + 1))) (steps k))
    ∙ ap (λ m. laid a0 x (value u E (Window (i.Narrow u c.args.site) c.args.site (inner (all m)) (steps k)))) next)
