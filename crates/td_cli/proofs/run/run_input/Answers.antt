use Rattle.std.proofs.lemmas.Result.{err_from_is_err_and}
use Rattle.td_cli_input.specs.Marker.{module_part, job_part}
use Rattle.td_cli.proofs.run.run_input.Goals as goal

pub returns-in_err-parsed-clause-complete : goal.returns-in_err-parsed-clause-complete
returns-in_err-parsed-clause-complete g c =
    λ m job given.
    let p = err_from_is_err_and c.from_residual.result c.from_residual.ensures.1 in
    rw (p.1, p.2) (c.in_err-parsed.ensures.complete m job given)

pub returns-in_err-parsed-clause-no_job : goal.returns-in_err-parsed-clause-no_job
returns-in_err-parsed-clause-no_job g c =
    λ none.
    let p = err_from_is_err_and c.from_residual.result c.from_residual.ensures.1 in
    let told = c.in_err-parsed.ensures.no_job none in
    cc (p.1, p.2, told)

pub ready_input-requires-clause-checked : goal.ready_input-requires-clause-checked
ready_input-requires-clause-checked g c =
    let h = c.in_ok-parsed.ensures.input in
    c.modules_are_checked.ensures (module_part c.args.input.now h.place) c.in_ok-parsed.parsed.«module» h.text

pub run_ready-run-requires-clause-entry : goal.run_ready-run-requires-clause-entry
run_ready-run-requires-clause-entry g c =
    let h = c.in_ok-parsed.ensures.input in
    (c.jobs_are_sized.ensures (job_part c.args.input.now h.place) c.in_ok-parsed.parsed.«module» c.in_ok-parsed.parsed.job (c.modules_are_checked.ensures (module_part c.args.input.now h.place) c.in_ok-parsed.parsed.«module» h.text) h.good).entry

pub run_ready-run-requires-clause-values : goal.run_ready-run-requires-clause-values
run_ready-run-requires-clause-values g c =
    let h = c.in_ok-parsed.ensures.input in
    (c.jobs_are_sized.ensures (job_part c.args.input.now h.place) c.in_ok-parsed.parsed.«module» c.in_ok-parsed.parsed.job (c.modules_are_checked.ensures (module_part c.args.input.now h.place) c.in_ok-parsed.parsed.«module» h.text) h.good).values
