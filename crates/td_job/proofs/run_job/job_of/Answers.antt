use Rattle.std.proofs.Common.{rules, ◌≡◌, Some, None}
use Rattle.serde_json.specs.View.{view}
use Rattle.td_job.specs.declared.error.Key.TheVariants as key
use Rattle.td_job.specs.Fields.{field_of}
use Rattle.td_job.proofs.Writing.{by_field, fault_by_field, memory_by_field}
use Rattle.td_job.proofs.run_job.job_of.Goals as goal

pub returns-in-None-clause-ok : goal.returns-in-None-clause-ok
returns-in-None-clause-ok c =
    let job = view c.args.job.now in
    let none : field_of key.Value job ≡ None = search rules in
    by_field None c.args.m.now job none c.job_of_bytes.result c.job_of_bytes.ensures.ok

pub returns-in-None-clause-err : goal.returns-in-None-clause-err
returns-in-None-clause-err c =
    let job = view c.args.job.now in
    let none : field_of key.Value job ≡ None = search rules in
    fault_by_field None c.args.m.now job none c.job_of_bytes.result c.job_of_bytes.ensures.err

pub returns-in-None-clause-memory : goal.returns-in-None-clause-memory
returns-in-None-clause-memory c =
    let job = view c.args.job.now in
    let none : field_of key.Value job ≡ None = search rules in
    memory_by_field None c.args.m.now job none c.job_of_bytes.result c.job_of_bytes.ensures.memory

pub returns-in-Some-clause-ok : goal.returns-in-Some-clause-ok
returns-in-Some-clause-ok c =
    let job = view c.args.job.now in
    let some : field_of key.Value job ≡ Some (view c.in-Some.value.now) = search rules in
    by_field (Some (view c.in-Some.value.now)) c.args.m.now job some c.job_of_value.result c.job_of_value.ensures.ok

pub returns-in-Some-clause-err : goal.returns-in-Some-clause-err
returns-in-Some-clause-err c =
    let job = view c.args.job.now in
    let some : field_of key.Value job ≡ Some (view c.in-Some.value.now) = search rules in
    fault_by_field (Some (view c.in-Some.value.now)) c.args.m.now job some c.job_of_value.result c.job_of_value.ensures.err

pub returns-in-Some-clause-memory : goal.returns-in-Some-clause-memory
returns-in-Some-clause-memory c =
    let job = view c.args.job.now in
    let some : field_of key.Value job ≡ Some (view c.in-Some.value.now) = search rules in
    memory_by_field (Some (view c.in-Some.value.now)) c.args.m.now job some c.job_of_value.result c.job_of_value.ensures.memory
