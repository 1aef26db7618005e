use Rattle.std.proofs.Common.{length, slice_set, true, ap, ◌∙◌}
use Rattle.td_ir.specs.declared.instructions.Instr.TheVariants as i
use Rattle.td_lower_blocks.specs.Block.{Stop, Guard, guard}
use Rattle.td_lower_blocks.specs.Constructs.{value}
use Rattle.td_lower_blocks.specs.Lowered.{expr_of}
use Rattle.td_lower_emit.specs.Emission.{Writes}
use Rattle.td_lower_emit.proofs.Writing.{stop_written, guard_written}
use Rattle.td_lower_emit.proofs.actions.write_test.Goals as goal

pub returns : goal.returns
returns c = λ x k.
    let T = c.args.t in
    let fail = i.Fail c.args.reason c.args.site in
    let y1 = c.write_value.new.code in
    let y2 = c.write.new.self in
    let y3 = c.write-2.new.self in
    let w1 : Writes c.args.code.now y1 (value T (expr_of c.args.e.now)) = c.in_ok-write_value.ensures in
    let s = c.land.ensures ∙ ap (λ n. slice_set y3 n (guard true T (length y3))) c.place-place.ensures in
    guard_written y1 y2 y3 c.land.new.code true T x i.Mark (Stop fail) k c.in_ok-write.ensures (stop_written y2 y3 fail x c.in_ok-write-2.ensures) s ∙ w1 x (Guard true T (Stop fail) k)
