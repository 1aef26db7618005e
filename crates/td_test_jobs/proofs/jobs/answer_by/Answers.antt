use Rattle.td_test_jobs.proofs.jobs.answer_by.Goals as goal

pub read_run_job-requires : goal.read_run_job-requires
read_run_job-requires c =
    let checked = c.requires in
    record { formed = checked.formed; copying = checked.copying; kinds = checked.kinds; safe = checked.safe }
