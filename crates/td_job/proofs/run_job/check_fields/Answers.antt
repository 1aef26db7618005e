use Rattle.std.proofs.Common.{rules, length, None}
use Rattle.serde_json.specs.View.{view}
use Rattle.td_job.specs.declared.error.Key.TheVariants as key
use Rattle.td_job.specs.Fields.{field_of, text_of, number_of}
use Rattle.td_job.specs.Stretches.{stretches_faults}
use Rattle.td_job.specs.Jobs.{bytes_faults, given_bytes, length_faults, FirstFaultBy, faults_by}
use Rattle.td_job.proofs.Tested.{args_first, cells_first, message_first, first_of_three, second_of_three}
use Rattle.td_job.proofs.run_job.check_fields.Goals as goal

pub returns-in_err-check_args-clause-err : goal.returns-in_err-check_args-clause-err
returns-in_err-check_args-clause-err c =
    let job = view c.args.job.now in
    let e = c.in_err-check_args.field-0.0 in
    let first : FirstFaultBy (faults_by None) c.args.m.now job e = args_first None c.args.m.now job c.in_ok-entry.entry e c.in_ok-entry.ensures.ok (search (rules, c.in_err-check_args.ensures.err)) in
    search (rules, first)

pub returns-in_err-check_cells-clause-err : goal.returns-in_err-check_cells-clause-err
returns-in_err-check_cells-clause-err c =
    let job = view c.args.job.now in
    let e = c.in_err-check_cells.field-0.0 in
    let first : FirstFaultBy (faults_by None) c.args.m.now job e = cells_first None c.args.m.now job c.in_ok-entry.entry e c.in_ok-entry.ensures.ok (search rules) (search (rules, c.in_err-check_cells.ensures.err)) in
    search (rules, first)

pub returns-in_err-given-clause-err : goal.returns-in_err-given-clause-err
returns-in_err-given-clause-err c =
    let job = view c.args.job.now in
    let e = c.in_err-given.field-0.0 in
    let first : FirstFaultBy (faults_by None) c.args.m.now job e =
    message_first None c.args.m.now job c.in_ok-entry.entry e c.in_ok-entry.ensures.ok (search rules) (search rules) (first_of_three _ _ _ e c.in_err-given.ensures.err) in
    search (rules, first)

pub returns-in_err-length-clause-err : goal.returns-in_err-length-clause-err
returns-in_err-length-clause-err c =
    let job = view c.args.job.now in
    let e = c.in_err-length.field-0.0 in
    let first : FirstFaultBy (faults_by None) c.args.m.now job e =
    message_first None c.args.m.now job c.in_ok-entry.entry e c.in_ok-entry.ensures.ok (search rules) (search rules) (second_of_three (bytes_faults key.Bytes (text_of key.Bytes job)) (length_faults (field_of key.Stretches job) (length (given_bytes job)) (number_of key.Length job))
    (stretches_faults (length (given_bytes job)) (number_of key.Length job) (field_of key.Stretches job)) e (search rules) (search (rules, c.in_err-length.ensures.err))) in
    search (rules, first)
