use Rattle.std.proofs.Common.{Err, ap, subst, ◌∙◌}
use Rattle.serde_json.specs.View.{view}
use Rattle.serde_json.specs.declared.value.Value.{Value}
use Rattle.td_job_host.specs.Guests.{BeginsWithName}
use Rattle.td_job_host.specs.Rings.{ring_faults}
use Rattle.td_job_host.proofs.Naming.{at_ring, handed, name_before}
use Rattle.td_job_host.proofs.rings.check_each_ring.Goals as goal

pub returns-in_err-ring_of-clause-memory : goal.returns-in_err-ring_of-clause-memory
returns-in_err-ring_of-clause-memory c = λ memory.
    let i = c.loop-ring.ring in
    let value = c.index-values-ring.result in
    let faults = c.loop-ring.invariant ∙ at_ring c.args.words c.args.values.now i value c.loop-ring-test.true in
    let told = handed c.from_residual.result c.in_err-ring_of.field-0.0 c.from_residual.ensures.1 memory in
    let here = subst (λ (v : Value). BeginsWithName (ring_faults c.args.words i (view v))) c.index-values-ring.is (c.in_err-ring_of.ensures.memory (ap Err told)) in
    rw faults (name_before _ _ here)
