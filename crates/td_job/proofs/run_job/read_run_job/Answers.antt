use Rattle.td_job.specs.Jobs.{later_faults, IsRunJob, RefusedJob}
use Rattle.td_job.proofs.Unique.{complete, exact, one_run_job, one_refusal_by, job_or_refusal, within, all_fit}
use Rattle.td_job.proofs.run_job.read_run_job.Goals as goal

pub returns-clause-complete : goal.returns-clause-complete
returns-clause-complete c =
    let bytes = c.args.bytes.now in
    let m = c.args.m.now in
    complete (IsRunJob bytes m) (RefusedJob bytes m) c.parsed_job.result (one_run_job bytes m) (job_or_refusal bytes m) c.parsed_job.ensures.job c.parsed_job.ensures.refused

pub returns-clause-exact : goal.returns-clause-exact
returns-clause-exact c =
    let bytes = c.args.bytes.now in
    let m = c.args.m.now in
    exact (IsRunJob bytes m) (RefusedJob bytes m) c.parsed_job.result (one_refusal_by later_faults bytes m) (job_or_refusal bytes m) c.parsed_job.ensures.job c.parsed_job.ensures.refused

pub returns-clause-entry : goal.returns-clause-entry
returns-clause-entry c = within c.args.bytes.now c.args.m.now c.parsed_job.result c.parsed_job.ensures.job

pub returns-clause-values : goal.returns-clause-values
returns-clause-values c = all_fit c.args.bytes.now c.args.m.now c.parsed_job.result c.parsed_job.ensures.job
