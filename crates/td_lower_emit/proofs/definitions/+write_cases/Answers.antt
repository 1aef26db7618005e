use Rattle.std.proofs.Common.{rules, ◌≡◌, suc, ◌+◌, length, ◌∷◌, slice_set, false, sym, ap, ◌∙◌, arith}
use Rattle.td_ir.specs.declared.instructions.Instr.TheVariants as i
use Rattle.td_lower_blocks.specs.Block.{Then, Guard, guard}
use Rattle.td_lower_blocks.specs.Constructs.{steps, cases}
use Rattle.td_lower_blocks.specs.Lowered.{parts_in, fields_steps, cases_of}
use Rattle.td_lower_emit.specs.Emission.{laid, Finishes}
use Rattle.td_lower_emit.proofs.Writing.{one_written, guard_written, stands_in, longer}
use Rattle.td_lower_emit.proofs.definitions.+write_cases.Goals as goal

pub land-requires : goal.land-requires
land-requires t c =
    let y3 = c.write-3.new.self in
    let y4 = c.write_field_list.new.code in
    let m = steps (fields_steps c.args.switch.unit c.args.site c.args.switch.level c.as_slice-fields.result.now) in
    stands_in c.write-2.new.self y3 y4 c.place-place.result i.Mark c.place-place.ensures c.in_ok-write-3.ensures (longer 0 y3 y4 m (c.in_ok-write_field_list.ensures 0))

pub returns : goal.returns
returns t c = λ x.
    let T = c.args.switch.unit in
    let site = c.args.site in
    let level = c.args.switch.level in
    let def = c.args.default.now in
    let a0 = c.args.code.now in
    let C = c.in-Some.case.now in
    let R = c.in-Some.rest.now in
    let v = C.value in
    let y1 = c.write.new.self in
    let y2 = c.write-2.new.self in
    let y3 = c.write-3.new.self in
    let y4 = c.write_field_list.new.code in
    let y5 = c.land.new.code in
    let e : c.args.all.now ≡ C ∷ R = search rules in
    let f : c.as_slice-fields.result.now ≡ C.fields = search rules in
    let count : c.count_parts.result ≡ parts_in C.fields = search rules in
    let m = steps (fields_steps T site level C.fields) in
    let rest = cases (suc T) (cases_of T c.args.switch.site (parts_in C.fields + site) level R def) in
    let w4 : Finishes x y3 y4 m = c.in_ok-write_field_list.ensures x ∙ ap (λ fs. laid y3 x (steps (fields_steps T site level fs))) f in
    let s = c.land.ensures ∙ ap (λ n. slice_set y4 n (guard false (T + 2) (length y4))) c.place-place.ensures in
    let two : T + 2 ≡ suc T + 1 = omega arith in
    let one : T + 1 ≡ suc T = omega arith in
    c.in_ok-write_cases.ensures x
    ∙ (ap (λ n. laid y5 x (cases (suc T) (cases_of T c.args.switch.site (n + site) level R def))) count
    ∙ (guard_written y2 y3 y4 y5 false (T + 2) x i.Mark m rest c.in_ok-write-3.ensures w4 s
    ∙ (one_written y1 y2 (i.Op (T + 2) 10 (T + 1) (T + 2)) x (Guard false (T + 2) m rest) c.in_ok-write-2.ensures
    ∙ (one_written a0 y1 (i.Const (T + 2) v) x (Then (i.Op (T + 2) 10 (T + 1) (T + 2)) (Guard false (T + 2) m rest)) c.in_ok-write.ensures
    ∙ (ap (λ n. laid a0 x (Then (i.Const n v) (Then (i.Op n 10 (T + 1) n) (Guard false n m rest)))) two
    ∙ (ap (λ n. laid a0 x (Then (i.Const (suc T + 1) v) (Then (i.Op (suc T + 1) 10 n (suc T + 1)) (Guard false (suc T + 1) m rest)))) one
    ∙ ap (λ cs. laid a0 x (cases (suc T) (cases_of T c.args.switch.site site level cs def))) (sym e)))))))
