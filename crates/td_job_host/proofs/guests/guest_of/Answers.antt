use Rattle.std.proofs.Common.{rules, ◌≡◌}
use Rattle.serde_json.specs.Find.{as_object}
use Rattle.serde_json.specs.View.{view}
use Rattle.td_job_host.specs.Imports.{NoMemory}
use Rattle.td_job.proofs.Tested.{memory_alone}
use Rattle.td_job_host.proofs.Naming.{script_tested}
use Rattle.td_job_host.proofs.guests.guest_of.Goals as goal

pub returns-in_err-script-clause-err : goal.returns-in_err-script-clause-err
returns-in_err-script-clause-err c =
    let none = script_tested c.args.words c.args.guest (view c.args.value.now) (as_object (view c.args.value.now)) c.in_ok-check_guest.ensures.ok in
    let memory : c.in_err-script.field-0.0 ≡ NoMemory = memory_alone _ _ none c.in_err-script.ensures.err in
    search (rules, memory)
