use Rattle.std.proofs.Common.{◌≡◌, ◌⊎◌, [], Option, Err, inl, inr, ap, subst}
use Rattle.serde_json.specs.View.{view}
use Rattle.td_job_host.specs.Imports.{TypeDef, JobError, NoMemory}
use Rattle.td_core.specs.Entries.{entry_definition}
use Rattle.td_job.specs.Fields.{IsFirst}
use Rattle.td_job_host.specs.Guests.{BeginsWithName}
use Rattle.td_job_host.specs.HostJobs.{after_faults, FirstFault}
use Rattle.td_job_host.proofs.Naming.{none_of_rest, handed, handed_on}
use Rattle.td_job_host.proofs.host_job.test_job.Goals as goal

pub returns-in_err-swaps-clause-err : goal.returns-in_err-swaps-clause-err
returns-in_err-swaps-clause-err c =
    let m = c.args.m.now in
    let job = view c.args.job.now in
    let entry = c.in_ok-entry.entry in
    let good = c.in_ok-entry.ensures.good in
    handed_on c.from_residual-in_err-swaps.result c.in_err-swaps.field-0.0 (λ (x : JobError). (x ≡ NoMemory) ⊎ FirstFault m job x) c.from_residual-in_err-swaps.ensures.1
    (elim c.in_err-swaps.ensures.err [
      | inl memory ↦ inl memory
      | inr swap ↦
          let fault : FirstFault m job c.in_err-swaps.field-0.0 = inr (entry, good.named, inr (none_of_rest m job entry good c.in_ok-entry.ensures.rest, inl swap)) in
          inr fault
    ])

pub returns-in_err-swaps-clause-memory : goal.returns-in_err-swaps-clause-memory
returns-in_err-swaps-clause-memory c = λ memory.
    let told = handed c.from_residual-in_err-swaps.result c.in_err-swaps.field-0.0 c.from_residual-in_err-swaps.ensures.1 memory in
    record { entry = c.in_ok-entry.entry; good = c.in_ok-entry.ensures.good; rest = inr (inr (c.in_ok-entry.ensures.rest, inl (c.in_err-swaps.ensures.memory (ap Err told)))) }

pub returns-in_err-check_after-clause-err : goal.returns-in_err-check_after-clause-err
returns-in_err-check_after-clause-err c =
    let m = c.args.m.now in
    let job = view c.args.job.now in
    let entry = c.in_ok-entry.entry in
    let good = c.in_ok-entry.ensures.good in
    let swaps = c.in_ok-swaps.swaps in
    handed_on c.from_residual-in_err-check_after.result c.in_err-check_after.field-0.0 (λ (x : JobError). (x ≡ NoMemory) ⊎ FirstFault m job x) c.from_residual-in_err-check_after.ensures.1
    (elim c.in_err-check_after.ensures.err [
      | inl memory ↦ inl memory
      | inr here ↦
          let first : IsFirst (after_faults (entry_definition m entry.number) job) c.in_err-check_after.field-0.0 =
          subst (λ (d : Option TypeDef). IsFirst (after_faults d job) c.in_err-check_after.field-0.0) c.definition_of.ensures here in
          let fault : FirstFault m job c.in_err-check_after.field-0.0 =
          inr (entry, good.named, inr (none_of_rest m job entry good c.in_ok-entry.ensures.rest, inr (swaps.formats.items, swaps.entries.items, c.in_ok-swaps.ensures.ok, first))) in
          inr fault
    ])

pub returns-in_err-check_after-clause-memory : goal.returns-in_err-check_after-clause-memory
returns-in_err-check_after-clause-memory c = λ memory.
    let told = handed c.from_residual-in_err-check_after.result c.in_err-check_after.field-0.0 c.from_residual-in_err-check_after.ensures.1 memory in
    let swaps = c.in_ok-swaps.swaps in
    let job = view c.args.job.now in
    let named = subst (λ (d : Option TypeDef). BeginsWithName (after_faults d job)) c.definition_of.ensures (c.in_err-check_after.ensures.memory (ap Err told)) in
    record {
      entry = c.in_ok-entry.entry;
      good = c.in_ok-entry.ensures.good;
      rest = inr (inr (c.in_ok-entry.ensures.rest, inr (swaps.formats.items, swaps.entries.items, c.in_ok-swaps.ensures.ok, inr named)));
    }

pub returns-clause-after : goal.returns-clause-after
returns-clause-after c =
    subst (λ (d : Option TypeDef). after_faults d (view c.args.job.now) ≡ []) c.definition_of.ensures c.in_ok-check_after.ensures.ok
