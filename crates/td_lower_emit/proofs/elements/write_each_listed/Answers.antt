use Rattle.std.proofs.Common.{◌≡◌, ◌≤◌, length, ◌++◌, ◌∷◌, [], slice_set, ap, ◌∙◌, arith, length-append}
use Rattle.td_ir.specs.declared.instructions.Instr.TheVariants as i
use Rattle.td_num.specs.Numbers.{bytes_in}
use Rattle.td_lower_blocks.specs.Block.{Done}
use Rattle.td_lower_blocks.specs.Constructs.{listed}
use Rattle.td_lower_blocks.specs.Lowered.{order_code}
use Rattle.td_lower_emit.specs.Emission.{Writes}
use Rattle.td_lower_emit.proofs.Writing.{loop_written, stands_in, grown}
use Rattle.td_lower_emit.proofs.elements.write_each_listed.Goals as goal

pub set-requires : goal.set-requires
set-requires c =
    let a0 = c.args.code.now in
    let y1 = c.write.new.self in
    let y2 = c.write_listed.new.code in
    let y3 = c.write-2.new.self in
    let f = listed c.args.t (order_code c.args.base.order) (bytes_in c.args.base.width) c.args.set c.args.site c.args.u in
    let l : length y1 ≤ length y2 = grown y1 y2 f c.in_ok-write_listed.ensures in
    let e : y3 ≡ y2 ++ i.Again c.place-place.result ∷ [] = c.in_ok-write-2.ensures in
    let m = ap length e in
    let n = length-append y2 (i.Again c.place-place.result ∷ []) in
    stands_in a0 y1 y3 c.place-place.result i.Mark c.place-place.ensures c.in_ok-write.ensures (omega (arith, l, m, n))

pub returns : goal.returns
returns c = λ x k.
    let a0 = c.args.code.now in
    let y1 = c.write.new.self in
    let y2 = c.write_listed.new.code in
    let y3 = c.write-2.new.self in
    let f = listed c.args.t (order_code c.args.base.order) (bytes_in c.args.base.width) c.args.set c.args.site c.args.u in
    let w : Writes y1 y2 f = c.in_ok-write_listed.ensures in
    let again = c.in_ok-write-2.ensures ∙ ap (λ n. y2 ++ i.Again n ∷ []) c.place-place.ensures in
    let s = c.set.ensures ∙ (ap (λ n. slice_set y3 n (i.While c.place-end.result)) c.place-place.ensures ∙ ap (λ n. slice_set y3 (length a0) (i.While n)) c.place-end.ensures) in
    loop_written a0 y1 y2 y3 c.set.new.self i.Mark x (f Done) k c.in_ok-write.ensures (w x Done) again s
