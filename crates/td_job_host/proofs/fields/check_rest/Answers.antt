use Rattle.std.proofs.Common.{◌≡◌, [], Err, ap, ◌∙◌}
use Rattle.serde_json.specs.View.{view}
use Rattle.td_job.specs.declared.error.Key.TheVariants as key
use Rattle.td_job.specs.Fields.{field_of}
use Rattle.td_job_host.specs.Guests.{BeginsWithName, guests_faults, listed_in}
use Rattle.td_job_host.specs.Rings.{rings_faults}
use Rattle.td_job_host.proofs.Naming.{handed, name_before, name_after, both_none}
use Rattle.td_job_host.proofs.fields.check_rest.Goals as goal

pub returns-in_err-check_each_guest-clause-memory : goal.returns-in_err-check_each_guest-clause-memory
returns-in_err-check_each_guest-clause-memory c = λ memory.
    let told = handed c.from_residual-in_err-check_each_guest.result c.in_err-check_each_guest.field-0.0 c.from_residual-in_err-check_each_guest.ensures.1 memory in
    let here = c.in_err-check_each_guest.ensures.memory (ap Err told) in
    let guests : BeginsWithName (guests_faults c.args.words (listed_in key.Guests (view c.args.job.now))) = rw (c.in_ok-guests.ensures.ok.0 c.args.words) here in
    name_before _ _ (name_before _ _ guests)

pub returns-in_err-check_each_ring-clause-memory : goal.returns-in_err-check_each_ring-clause-memory
returns-in_err-check_each_ring-clause-memory c = λ memory.
    let told = handed c.from_residual-in_err-check_each_ring.result c.in_err-check_each_ring.field-0.0 c.from_residual-in_err-check_each_ring.ensures.1 memory in
    let here = c.in_err-check_each_ring.ensures.memory (ap Err told) in
    let none : guests_faults c.args.words (listed_in key.Guests (view c.args.job.now)) ≡ [] = c.in_ok-guests.ensures.ok.0 c.args.words ∙ c.in_ok-check_each_guest.ensures.ok in
    let rings : BeginsWithName (rings_faults c.args.words (field_of key.Rings (view c.args.job.now))) = rw (c.in_ok-rings.ensures.ok.0 c.args.words) here in
    name_before _ _ (name_after _ _ none rings)

pub returns-clause-ok : goal.returns-clause-ok
returns-clause-ok c =
    let guests : guests_faults c.args.words (listed_in key.Guests (view c.args.job.now)) ≡ [] = c.in_ok-guests.ensures.ok.0 c.args.words ∙ c.in_ok-check_each_guest.ensures.ok in
    let rings : rings_faults c.args.words (field_of key.Rings (view c.args.job.now)) ≡ [] = c.in_ok-rings.ensures.ok.0 c.args.words ∙ c.in_ok-check_each_ring.ensures.ok in
    both_none (both_none guests rings) c.in_ok-check_swap_list.ensures.ok
