use Rattle.td_job_host.proofs.Swapping.{Texts}
use Rattle.td_job_host.proofs.Jobs.{one_host_job, one_refusal, job_or_refusal}
use Rattle.td_job_host.proofs.laws.one_answer_each.Goals as goal

pub returns : goal.returns
returns c =
    let texts : Texts = record { one_module = c.one_answer_each.ensures.one_module; never_both = c.one_answer_each.ensures.never_both } in
    record { one_job = one_host_job texts; one_fault = one_refusal texts; never_both = job_or_refusal texts }
