use Rattle.td_job.proofs.Unique.{complete, exact}
use Rattle.td_job_host.specs.HostJobs.{IsHostJob, RefusedHostJob}
use Rattle.td_job_host.proofs.Swapping.{Texts}
use Rattle.td_job_host.proofs.Jobs.{one_host_job, job_or_refusal, one_refusal}
use Rattle.td_job_host.proofs.Versions.{all_fit}
use Rattle.td_job_host.proofs.Serving.{are_servable, are_short}
use Rattle.td_job_host.proofs.host_job.read_host_job.Goals as goal

pub returns-clause-complete : goal.returns-clause-complete
returns-clause-complete c =
    let bytes = c.args.bytes.now in
    let m = c.args.m.now in
    let texts : Texts = record { one_module = c.one_answer_each.ensures.one_module; never_both = c.one_answer_each.ensures.never_both } in
    complete (IsHostJob bytes m) (RefusedHostJob bytes m) c.parsed_host_job.result (one_host_job texts bytes m) (job_or_refusal texts bytes m) c.parsed_host_job.ensures.job c.parsed_host_job.ensures.refused

pub returns-clause-exact : goal.returns-clause-exact
returns-clause-exact c =
    let bytes = c.args.bytes.now in
    let m = c.args.m.now in
    let texts : Texts = record { one_module = c.one_answer_each.ensures.one_module; never_both = c.one_answer_each.ensures.never_both } in
    exact (IsHostJob bytes m) (RefusedHostJob bytes m) c.parsed_host_job.result (one_refusal texts bytes m) (job_or_refusal texts bytes m) c.parsed_host_job.ensures.job c.parsed_host_job.ensures.refused

pub returns-clause-values : goal.returns-clause-values
returns-clause-values c = all_fit c.args.bytes.now c.args.m.now c.parsed_host_job.result c.parsed_host_job.ensures.job

pub returns-clause-servable : goal.returns-clause-servable
returns-clause-servable c = are_servable c.args.bytes.now c.args.m.now c.parsed_host_job.result c.parsed_host_job.ensures.job c.parsed_host_job.ensures.words c.parsed_host_job.ensures.bytes

pub returns-clause-short : goal.returns-clause-short
returns-clause-short c = are_short c.args.bytes.now c.args.m.now c.parsed_host_job.result c.parsed_host_job.ensures.job
