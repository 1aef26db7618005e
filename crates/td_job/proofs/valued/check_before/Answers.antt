use Rattle.std.proofs.Common.{rules, Some}
use Rattle.serde_json.specs.View.{view}
use Rattle.td_job.specs.Jobs.{FirstFaultBy, faults_by}
use Rattle.td_job.proofs.Tested.{args_first, cells_first, message_first, first_of_three, second_of_three}
use Rattle.td_job.proofs.valued.check_before.Goals as goal

pub returns-in_err-check_args-clause-err : goal.returns-in_err-check_args-clause-err
returns-in_err-check_args-clause-err c =
    let job = view c.args.job.now in
    let value = Some (view c.args.value.now) in
    let e = c.in_err-check_args.field-0.0 in
    let first : FirstFaultBy (faults_by value) c.args.m.now job e = args_first value c.args.m.now job c.in_ok-entry.entry e c.in_ok-entry.ensures.ok (search (rules, c.in_err-check_args.ensures.err)) in
    search (rules, first)

pub returns-in_err-check_cells-clause-err : goal.returns-in_err-check_cells-clause-err
returns-in_err-check_cells-clause-err c =
    let job = view c.args.job.now in
    let value = Some (view c.args.value.now) in
    let e = c.in_err-check_cells.field-0.0 in
    let first : FirstFaultBy (faults_by value) c.args.m.now job e = cells_first value c.args.m.now job c.in_ok-entry.entry e c.in_ok-entry.ensures.ok (search rules) (search (rules, c.in_err-check_cells.ensures.err)) in
    search (rules, first)

pub returns-in_err-check_alone-clause-err : goal.returns-in_err-check_alone-clause-err
returns-in_err-check_alone-clause-err c =
    let job = view c.args.job.now in
    let value = Some (view c.args.value.now) in
    let e = c.in_err-check_alone.field-0.0 in
    let first : FirstFaultBy (faults_by value) c.args.m.now job e =
    message_first value c.args.m.now job c.in_ok-entry.entry e c.in_ok-entry.ensures.ok (search rules) (search rules) (first_of_three _ _ _ e c.in_err-check_alone.ensures.err) in
    search (rules, first)

pub returns-in_err-check_value-clause-err : goal.returns-in_err-check_value-clause-err
returns-in_err-check_value-clause-err c =
    let job = view c.args.job.now in
    let value = Some (view c.args.value.now) in
    let e = c.in_err-check_value.field-0.0 in
    let first : FirstFaultBy (faults_by value) c.args.m.now job e =
    message_first value c.args.m.now job c.in_ok-entry.entry e c.in_ok-entry.ensures.ok (search rules) (search rules) (second_of_three _ _ _ e (search rules) c.in_err-check_value.ensures.err) in
    search (rules, first)
