use Rattle.std.proofs.Common.{◌≡◌, length, arith}
use Rattle.std.proofs.lemmas.Bool.Decides.{nat_tests}
use Rattle.td_job.specs.Slots.{slot_bounds}
use Rattle.td_job.proofs.Numbers.{wrong_length, right_length}
use Rattle.td_job.proofs.values.check_list.Goals as goal

pub returns-then-len-clause-err : goal.returns-then-len-clause-err
returns-then-len-clause-err c =
    let values = c.in-Some.values.now.items in
    let differ : length values ≡ length (slot_bounds c.args.slots) → ⊥ = λ same. grind (arith, nat_tests, c.if-len.true, c.len.ensures, c.len-2.ensures, same) in
    rw (← c.in-Some.ensures, c.at-then-len.ensures) (wrong_length c.args.key (slot_bounds c.args.slots) values differ)

pub returns-clause-ok : goal.returns-clause-ok
returns-clause-ok c =
    let values = c.in-Some.values.now.items in
    let same : length values ≡ length (slot_bounds c.args.slots) = grind (arith, nat_tests, c.if-len.false, c.len.ensures, c.len-2.ensures) in
    let right = right_length c.args.key (slot_bounds c.args.slots) values same in
    rw (← c.in-Some.ensures, right, ← c.as_slice.ensures.value) c.check_values.ensures.ok

pub returns-clause-err : goal.returns-clause-err
returns-clause-err c =
    let values = c.in-Some.values.now.items in
    let same : length values ≡ length (slot_bounds c.args.slots) = grind (arith, nat_tests, c.if-len.false, c.len.ensures, c.len-2.ensures) in
    let right = right_length c.args.key (slot_bounds c.args.slots) values same in
    rw (← c.in-Some.ensures, right, ← c.as_slice.ensures.value) c.check_values.ensures.err
