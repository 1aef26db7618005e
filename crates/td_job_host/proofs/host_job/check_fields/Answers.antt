use Rattle.std.proofs.Common.{◌≡◌, ◌⊎◌, ℕ, [], Err, inl, inr, sym, ap, subst, ◌∙◌, arith}
use Rattle.serde_json.specs.View.{view}
use Rattle.td_job_host.specs.Imports.{JobError, NoMemory}
use Rattle.td_job.specs.Fields.{IsFirst}
use Rattle.td_job_host.specs.Guests.{BeginsWithName}
use Rattle.td_job_host.specs.HostJobs.{buffer_words, rest_faults, FirstFault}
use Rattle.td_job_host.proofs.Naming.{first_of_rest, handed, handed_on}
use Rattle.td_job_host.proofs.host_job.check_fields.Goals as goal

pub returns-in_err-count-clause-memory : goal.returns-in_err-count-clause-memory
returns-in_err-count-clause-memory c = λ memory. record {
  entry = c.in_ok-entry.entry;
  good = c.in_ok-entry.ensures.good;
  rest = inl (omega (arith, c.in_err-count.ensures.full, c.in_ok-entry.ensures.words));
}

pub returns-in_err-check_rest-clause-err : goal.returns-in_err-check_rest-clause-err
returns-in_err-check_rest-clause-err c =
    let words : c.in_ok-count.count ≡ buffer_words (view c.args.job.now) = c.in_ok-count.ensures.ok ∙ sym c.in_ok-entry.ensures.words in
    let m = c.args.m.now in
    let job = view c.args.job.now in
    handed_on c.from_residual-in_err-check_rest.result c.in_err-check_rest.field-0.0 (λ (x : JobError). (x ≡ NoMemory) ⊎ FirstFault m job x) c.from_residual-in_err-check_rest.ensures.1
    (elim c.in_err-check_rest.ensures.err [
      | inl memory ↦ inl memory
      | inr first ↦
          let here = subst (λ (n : ℕ). IsFirst (rest_faults n job) c.in_err-check_rest.field-0.0) words first in
          inr (first_of_rest m job c.in_ok-entry.entry c.in_ok-entry.ensures.good c.in_err-check_rest.field-0.0 here)
    ])

pub returns-in_err-check_rest-clause-memory : goal.returns-in_err-check_rest-clause-memory
returns-in_err-check_rest-clause-memory c = λ memory.
    let words : c.in_ok-count.count ≡ buffer_words (view c.args.job.now) = c.in_ok-count.ensures.ok ∙ sym c.in_ok-entry.ensures.words in
    let told = handed c.from_residual-in_err-check_rest.result c.in_err-check_rest.field-0.0 c.from_residual-in_err-check_rest.ensures.1 memory in
    let name = subst (λ (n : ℕ). BeginsWithName (rest_faults n (view c.args.job.now))) words (c.in_err-check_rest.ensures.memory (ap Err told)) in
    record { entry = c.in_ok-entry.entry; good = c.in_ok-entry.ensures.good; rest = inr (inl name) }

pub returns-clause-rest : goal.returns-clause-rest
returns-clause-rest c =
    let words : c.in_ok-count.count ≡ buffer_words (view c.args.job.now) = c.in_ok-count.ensures.ok ∙ sym c.in_ok-entry.ensures.words in
    subst (λ (n : ℕ). rest_faults n (view c.args.job.now) ≡ []) words c.in_ok-check_rest.ensures.ok

pub returns-clause-words : goal.returns-clause-words
returns-clause-words c = c.in_ok-entry.ensures.words ∙ sym c.in_ok-count.ensures.ok
