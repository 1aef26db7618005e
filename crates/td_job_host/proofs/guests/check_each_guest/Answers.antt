use Rattle.std.proofs.Common.{Err, ap, subst, ◌∙◌}
use Rattle.serde_json.specs.View.{view}
use Rattle.serde_json.specs.declared.value.Value.{Value}
use Rattle.td_job_host.specs.Guests.{BeginsWithName, guest_faults}
use Rattle.td_job_host.proofs.Naming.{at_guest, handed, name_before}
use Rattle.td_job_host.proofs.guests.check_each_guest.Goals as goal

pub returns-in_err-check_guest-clause-memory : goal.returns-in_err-check_guest-clause-memory
returns-in_err-check_guest-clause-memory c = λ memory.
    let i = c.loop-guest.guest in
    let value = c.index-values-guest.result in
    let faults = c.loop-guest.invariant ∙ at_guest c.args.words c.args.values.now i value c.loop-guest-test.true in
    let told = handed c.from_residual.result c.in_err-check_guest.field-0.0 c.from_residual.ensures.1 memory in
    let here = subst (λ (v : Value). BeginsWithName (guest_faults c.args.words i (view v))) c.index-values-guest.is (c.in_err-check_guest.ensures.memory (ap Err told)) in
    rw faults (name_before _ _ here)
