use Rattle.std.proofs.Common.{◌≡◌, suc, ◌+◌, length, ◌++◌, ◌∷◌, [], slice_set, ap, ◌∙◌, arith}
use Rattle.td_ir.specs.declared.instructions.Instr.TheVariants as i
use Rattle.td_lower_blocks.specs.Block.{Done, Then, Loop}
use Rattle.td_lower_emit.specs.Emission.{laid}
use Rattle.td_lower_emit.proofs.Writing.{one_written, loop_written}
use Rattle.td_lower_emit.proofs.elements.write_calls.Goals as goal

pub returns : goal.returns
returns c = λ x k.
    let a0 = c.args.code.now in
    let y1 = c.write.new.self in
    let y2 = c.write-2.new.self in
    let y3 = c.write-3.new.self in
    let call = i.Call (c.args.t + 1) c.args.routine c.args.site c.args.site in
    let next : c.args.t + 1 ≡ suc c.args.t = omega arith in
    let again = c.in_ok-write-3.ensures ∙ ap (λ n. y2 ++ i.Again n ∷ []) c.place-place.ensures in
    let s = c.set.ensures ∙ (ap (λ n. slice_set y3 n (i.While c.place-end.result)) c.place-place.ensures ∙ ap (λ n. slice_set y3 (length a0) (i.While n)) c.place-end.ensures) in
    loop_written a0 y1 y2 y3 c.set.new.self i.Mark x (Then call Done) k c.in_ok-write.ensures (one_written y1 y2 call x Done c.in_ok-write-2.ensures) again s
    ∙ ap (λ n. laid a0 x (Loop (Then (i.Call n c.args.routine c.args.site c.args.site) Done) k)) next
