use Rattle.std.proofs.Common.{◌≡◌, suc, ◌+◌, length, slice_set, true, sym, ap, ◌∙◌, arith}
use Rattle.td_ir.specs.declared.instructions.Instr.TheVariants as i
use Rattle.td_lower_blocks.specs.Block.{Then, Stop, Guard, guard}
use Rattle.td_lower_blocks.specs.Constructs.{inner}
use Rattle.td_lower_blocks.specs.Lowered.{exactly}
use Rattle.td_lower_emit.specs.Emission.{laid}
use Rattle.td_lower_emit.proofs.Writing.{one_written, stop_written, guard_written}
use Rattle.td_lower_emit.proofs.elements.write_exactly.Goals as goal

pub returns-in_ok-write-in-Some-4 : goal.returns-in_ok-write-in-Some-4
returns-in_ok-write-in-Some-4 c = λ x k.
    let u = c.args.u in
    let n = c.in-Some.step in
    let a0 = c.args.code.now in
    let fail = i.Fail 2 c.args.site in
    let y1 = c.write.new.self in
    let y2 = c.write-in-Some.new.self in
    let y3 = c.write-in-Some-2.new.self in
    let y4 = c.write-in-Some-3.new.self in
    let s = c.land.ensures ∙ ap (λ m. slice_set y4 m (guard true (u + 1) (length y4))) c.place-place.ensures in
    let rest = Guard true (u + 1) (Stop fail) (inner k) in
    let next : u + 1 ≡ suc u = omega arith in
    guard_written y2 y3 y4 c.land.new.code true (u + 1) x i.Mark (Stop fail) (inner k) c.in_ok-write-in-Some-3.ensures (stop_written y3 y4 fail x c.in_ok-write-in-Some-4.ensures) s
    ∙ (one_written y1 y2 (i.Op (u + 1) 10 u (u + 1)) x rest c.in_ok-write-in-Some-2.ensures
    ∙ (one_written a0 y1 (i.Const (u + 1) n) x (Then (i.Op (u + 1) 10 u (u + 1)) rest) c.in_ok-write-in-Some.ensures
    ∙ (ap (λ m. laid a0 x (Then (i.Const m n) (Then (i.Op m 10 u m) (Guard true m (Stop fail) (inner k))))) next
    ∙ ap (λ o. laid a0 x (inner (exactly c.args.t o u c.args.site k))) (sym c.in-Some.is))))
