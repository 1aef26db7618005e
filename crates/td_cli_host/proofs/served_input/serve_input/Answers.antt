use Rattle.std.proofs.Common.{List, refl, sym, subst}
use Rattle.std.proofs.lemmas.Bool.{false≢true}
use Rattle.std.proofs.lemmas.Result.{err_from_is_err_and}
use Rattle.td_posts.specs.declared.job.HostJob.{HostJob}
use Rattle.td_posts.specs.declared.ring.RingJob.{RingJob}
use Rattle.td_cli_host.specs.declared.served_input.ServedInput.{ServedInput}
use Rattle.td_cli_host.specs.Rings.{RingsAreRead}
use Rattle.td_cli_host.specs.ServedInput.{IsServedInput, CanBeShown}
use Rattle.td_cli_host.proofs.Refusals.{same_rings, read_by, refuses_here, ring_cause, ring_memory, none_refuses}
use Rattle.td_cli_host.proofs.served_input.serve_input.Goals as goal

pub returns-in_err-given-clause-cause : goal.returns-in_err-given-clause-cause
returns-in_err-given-clause-cause g c =
    let p = err_from_is_err_and c.from_residual.result c.from_residual.ensures.1 in
    rw (p.1, p.2) (refuses_here c.args.input.now c.in_err-given.field-0.0 c.in_err-given.ensures.cause)

pub returns-in_err-given-clause-complete : goal.returns-in_err-given-clause-complete
returns-in_err-given-clause-complete g c =
    λ m job given read.
    let p = err_from_is_err_and c.from_residual.result c.from_residual.ensures.1 in
    rw (p.1, p.2) (c.in_err-given.ensures.complete m job given)

pub returns-in_err-given-clause-no_job : goal.returns-in_err-given-clause-no_job
returns-in_err-given-clause-no_job g c =
    λ none.
    let p = err_from_is_err_and c.from_residual.result c.from_residual.ensures.1 in
    let told = c.in_err-given.ensures.no_job none in
    cc (p.1, p.2, told)

pub returns-in_err-readers-clause-cause : goal.returns-in_err-readers-clause-cause
returns-in_err-readers-clause-cause g c =
    let given = c.in_ok-given.given in
    let p = err_from_is_err_and c.from_residual-in_err-readers.result c.from_residual-in_err-readers.ensures.1 in
    rw (p.1, p.2) (ring_cause c.args.input.now given.«module» given.job c.in_err-readers.field-0.0 c.in_ok-given.ensures.input c.in_err-readers.ensures.err)

pub returns-in_err-readers-clause-complete : goal.returns-in_err-readers-clause-complete
returns-in_err-readers-clause-complete g c =
    λ m job is read.
    let given = c.in_ok-given.given in
    let p = err_from_is_err_and c.from_residual-in_err-readers.result c.from_residual-in_err-readers.ensures.1 in
    let same = same_rings c.one_answer_each.ensures.one_module c.one_answer_each-2.ensures.one_job c.args.input.now m given.«module» job given.job is c.in_ok-given.ensures.input in
    rw (p.1, p.2) (ring_memory given.job.rings c.in_err-readers.field-0.0 (subst (λ (rings : List RingJob). RingsAreRead rings) same read) c.in_err-readers.ensures.err)

pub returns-in-Ok-serve_job-clause-served : goal.returns-in-Ok-serve_job-clause-served
returns-in-Ok-serve_job-clause-served g c =
    let given = c.in_ok-given.given in
    let by = c.in_ok-readers.ensures.by in
    let made = c.in-Ok-serve_job.served in
    let served : IsServedInput c.args.input.now given.job.formats given.job.entries made.replies c.in_ok-readers.readers.«module» made.takes = record {
      m = given.«module»;
      job = given.job;
      descriptors = by.0;
      input_is = c.in_ok-given.ensures.input;
      formats_are = refl;
      entries_are = refl;
      ring_is = by.1;
      narrow = c.in_ok-given.ensures.servable.few_bytes;
      served = c.in-Ok-serve_job.ensures.served by.0 by.2;
    } in
    subst (λ (s : ServedInput). IsServedInput c.args.input.now s.formats s.entries s.replies s.ring s.takes) (sym c.served_of.ensures)
    (subst (λ (j : HostJob). IsServedInput c.args.input.now j.formats j.entries made.replies c.in_ok-readers.readers.«module» made.takes) (sym c.in-Ok-serve_job.ensures.job) served)

pub returns-in-Ok-serve_job-clause-shown : goal.returns-in-Ok-serve_job-clause-shown
returns-in-Ok-serve_job-clause-shown g c =
    let by = c.in_ok-readers.ensures.by in
    let made = c.in-Ok-serve_job.served in
    subst (λ (s : ServedInput). CanBeShown s.formats s.entries s.replies s.takes) (sym c.served_of.ensures)
    (subst (λ (j : HostJob). CanBeShown j.formats j.entries made.replies made.takes) (sym c.in-Ok-serve_job.ensures.job)
    (c.served_can_be_shown.ensures by.0 c.in_ok-given.given.job made.replies made.takes (c.in-Ok-serve_job.ensures.served by.0 by.2)))

pub returns-in-Ok-serve_job-clause-refused : goal.returns-in-Ok-serve_job-clause-refused
returns-in-Ok-serve_job-clause-refused g c =
    λ refusal h.
    let given = c.in_ok-given.given in
    let by = c.in_ok-readers.ensures.by in
    let read = read_by given.job.rings by.0 c.in_ok-readers.readers.«module» by.1 in
    absurd (none_refuses c.one_answer_each.ensures.one_module c.one_answer_each-2.ensures.one_job c.args.input.now given.«module» given.job c.in_ok-given.ensures.input read (λ r k. false≢true (c.in_ok-given.ensures.refused r k)) refusal h)
