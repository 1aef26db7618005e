use Rattle.std.proofs.Common.{◌+◌, length, slice_set, true, false, ap, ◌∙◌}
use Rattle.td_ir.specs.declared.instructions.Instr.TheVariants as i
use Rattle.td_lower_blocks.specs.Block.{Done, Guard, guard}
use Rattle.td_lower_blocks.specs.Constructs.{value, acts}
use Rattle.td_lower_blocks.specs.Lowered.{expr_of, action_of}
use Rattle.td_lower_emit.specs.Emission.{Writes}
use Rattle.td_lower_emit.proofs.Writing.{guard_written, stands_in, longer}
use Rattle.td_lower_emit.proofs.actions.+statements.Goals as goal

pub write_branches-land-requires : goal.write_branches-land-requires
write_branches-land-requires t c =
    let m = acts (c.args.t + 1) c.args.site (action_of c.args.level c.args.one.now) Done in
    stands_in c.write_value.new.code c.write.new.self c.write_statements.new.code c.place-first.result i.Mark c.place-first.ensures c.in_ok-write.ensures
    (longer c.args.leave c.write.new.self c.write_statements.new.code m c.in_ok-write_statements.ensures)

pub write_branches-land-requires-2 : goal.write_branches-land-requires-2
write_branches-land-requires-2 t c =
    let m = acts (c.args.t + 1) c.args.site (action_of c.args.level c.args.other.now) Done in
    stands_in c.land.new.code c.write-2.new.self c.write_statements-2.new.code c.place-second.result i.Mark c.place-second.ensures c.in_ok-write-2.ensures
    (longer c.args.leave c.write-2.new.self c.write_statements-2.new.code m c.in_ok-write_statements-2.ensures)

pub write_branches-returns : goal.write_branches-returns
write_branches-returns t c = λ k.
    let T = c.args.t in
    let x = c.args.leave in
    let y1 = c.write_value.new.code in
    let y2 = c.write.new.self in
    let y3 = c.write_statements.new.code in
    let y4 = c.land.new.code in
    let y5 = c.write-2.new.self in
    let y6 = c.write_statements-2.new.code in
    let y7 = c.land-2.new.code in
    let w1 : Writes c.args.code.now y1 (value T (expr_of c.args.e.now)) = c.in_ok-write_value.ensures in
    let one = acts (T + 1) c.args.site (action_of c.args.level c.args.one.now) Done in
    let other = acts (T + 1) c.args.site (action_of c.args.level c.args.other.now) Done in
    let s4 = c.land.ensures ∙ ap (λ n. slice_set y3 n (guard false T (length y3))) c.place-first.ensures in
    let s7 = c.land-2.ensures ∙ ap (λ n. slice_set y6 n (guard true T (length y6))) c.place-second.ensures in
    guard_written y4 y5 y6 y7 true T x i.Mark other k c.in_ok-write-2.ensures c.in_ok-write_statements-2.ensures s7
    ∙ (guard_written y1 y2 y3 y4 false T x i.Mark one (Guard true T other k) c.in_ok-write.ensures c.in_ok-write_statements.ensures s4
    ∙ w1 x (Guard false T one (Guard true T other k)))
