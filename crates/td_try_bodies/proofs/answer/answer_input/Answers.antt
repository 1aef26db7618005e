use Rattle.td_cli_input.specs.Marker.{module_part, job_part}
use Rattle.td_try_bodies.proofs.answer.answer_input.Goals as goal

pub answer_job-requires-clause-checked : goal.answer_job-requires-clause-checked
answer_job-requires-clause-checked c =
    let h = c.in-Ok.ensures.input in
    c.modules_are_checked.ensures (module_part c.args.input.now h.place) c.in-Ok.parsed.«module» h.text

pub answer_job-requires-clause-entry : goal.answer_job-requires-clause-entry
answer_job-requires-clause-entry c =
    let h = c.in-Ok.ensures.input in
    (c.jobs_are_sized.ensures (job_part c.args.input.now h.place) c.in-Ok.parsed.«module» c.in-Ok.parsed.job (answer_job-requires-clause-checked c) h.good).entry

pub answer_job-requires-clause-values : goal.answer_job-requires-clause-values
answer_job-requires-clause-values c =
    let h = c.in-Ok.ensures.input in
    (c.jobs_are_sized.ensures (job_part c.args.input.now h.place) c.in-Ok.parsed.«module» c.in-Ok.parsed.job (answer_job-requires-clause-checked c) h.good).values
