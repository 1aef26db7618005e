use Rattle.std.proofs.Common.{length, slice_set, true, ap, ◌∙◌}
use Rattle.td_ir.specs.declared.instructions.Instr.TheVariants as i
use Rattle.td_lower_blocks.specs.Block.{Then, Stop, Guard, guard}
use Rattle.td_lower_blocks.specs.Lowered.{order_code}
use Rattle.td_lower_emit.specs.Emission.{laid}
use Rattle.td_lower_emit.proofs.Writing.{one_written, stop_written, guard_written}
use Rattle.td_lower_emit.proofs.fields.write_listed.Goals as goal

pub returns : goal.returns
returns c = λ x k.
    let T = c.args.t in
    let a0 = c.args.code.now in
    let fail = i.Fail 4 c.args.site in
    let y1 = c.write.new.self in
    let y2 = c.write-2.new.self in
    let y3 = c.write-3.new.self in
    let y4 = c.write-4.new.self in
    let s = c.land.ensures ∙ ap (λ n. slice_set y4 n (guard true T (length y4))) c.place-place.ensures in
    let rest = Guard true T (Stop fail) k in
    guard_written y2 y3 y4 c.land.new.code true T x i.Mark (Stop fail) k c.in_ok-write-3.ensures (stop_written y3 y4 fail x c.in_ok-write-4.ensures) s
    ∙ (one_written y1 y2 (i.Member T c.args.slot c.args.set) x rest c.in_ok-write-2.ensures
    ∙ (one_written a0 y1 (i.Fetch c.args.slot c.order_code.result c.byte_count.result c.args.site) x (Then (i.Member T c.args.slot c.args.set) rest) c.in_ok-write.ensures
    ∙ (ap (λ o. laid a0 x (Then (i.Fetch c.args.slot o c.byte_count.result c.args.site) (Then (i.Member T c.args.slot c.args.set) rest))) c.order_code.ensures
    ∙ ap (λ w. laid a0 x (Then (i.Fetch c.args.slot (order_code c.args.base.order) w c.args.site) (Then (i.Member T c.args.slot c.args.set) rest))) c.byte_count.ensures)))
