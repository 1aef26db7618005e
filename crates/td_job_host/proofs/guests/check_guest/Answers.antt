use Rattle.std.proofs.Common.{Err, ap}
use Rattle.serde_json.specs.Find.{as_object}
use Rattle.serde_json.specs.View.{view}
use Rattle.td_job_host.proofs.Naming.{guest_named, handed}
use Rattle.td_job_host.proofs.guests.check_guest.Goals as goal

pub returns-in_err-check_guest_names-clause-memory : goal.returns-in_err-check_guest_names-clause-memory
returns-in_err-check_guest_names-clause-memory c = λ memory.
    let told = handed c.from_residual-in_err-check_guest_names.result c.in_err-check_guest_names.field-0.0 c.from_residual-in_err-check_guest_names.ensures.1 memory in
    guest_named c.args.words c.args.guest (view c.args.value.now) (as_object (view c.args.value.now)) c.in_ok-check_script.ensures.ok (c.in_err-check_guest_names.ensures.memory (ap Err told))
