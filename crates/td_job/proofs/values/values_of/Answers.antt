use Rattle.std.proofs.Common.{length, ap, arith}
use Rattle.serde_json.specs.View.{view}
use Rattle.td_job.specs.Fields.{field_of}
use Rattle.td_job.specs.Slots.{slot_bounds}
use Rattle.td_job.proofs.Numbers.{numbers_counted, on_err, zeros_counted}
use Rattle.td_job.proofs.values.values_of.Goals as goal

pub returns-in_default-clause-memory : goal.returns-in_default-clause-memory
returns-in_default-clause-memory c =
    let some = zeros_counted (slot_bounds c.args.slots) (field_of c.args.key (view c.args.job.now)) c.len.result c.in_default.ensures c.len.ensures in
    on_err c.zeros.result _ _ some c.zeros.ensures.memory

pub returns-in-Some-as_array-clause-memory : goal.returns-in-Some-as_array-clause-memory
returns-in-Some-as_array-clause-memory c =
    let some = numbers_counted (slot_bounds c.args.slots) (field_of c.args.key (view c.args.job.now)) (view c.in-Some.value.now) c.in-Some-as_array.values.now.items c.in-Some.ensures c.in-Some-as_array.ensures in
    on_err c.numbers_of.result _ _ (λ many. some (omega (arith, many, ap length c.as_slice.ensures.value))) c.numbers_of.ensures.memory
