use Rattle.std.proofs.Common.{◌≡◌, ℕ, ◌<◌, List, length, Err, subst, sym, ap, ◌∙◌, ◌⊎◌, inl, inr, arith}
use Rattle.std.proofs.lemmas.Bool.{false≢true}
use Rattle.std.proofs.lemmas.Result.{err_from_is_err_and}
use Rattle.td_cli_input.specs.Imports.{Module, FrontError, RunJob, JobError}
use Rattle.td_front.specs.ModuleText.{IsModuleText, RefusedBy}
use Rattle.td_job.specs.declared.error.JobError.TheVariants as jobs
use Rattle.td_job.specs.Jobs.{IsRunJob, RefusedJob}
use Rattle.td_cli_input.specs.declared.refusal.Refusal.TheVariants.{BadModule}
use Rattle.td_cli_input.specs.declared.refusal.InputError.TheVariants.{NoMemory}
use Rattle.td_cli_input.specs.Causes.{HasCause}
use Rattle.td_cli_input.specs.Marker.{module_part, job_part}
use Rattle.td_cli_input.specs.Inputs.{RefusesRun}
use Rattle.td_cli_input.proofs.Memory.{job_memory}
use Rattle.td_cli_input.proofs.Inputs.{text_cause, job_error, job_errors, nothing_refuses, no_error}
use Rattle.td_cli_input.proofs.Sounds.{sound_job}
use Rattle.td_cli_input.proofs.run.parse_run_input.Goals as goal
use Rattle.td_num.proofs.Equals.{same_error}

-- ---- there is no marker, or the text is no module

pub returns-in_err-part-clause-cause : goal.returns-in_err-part-clause-cause
returns-in_err-part-clause-cause c =
    let p = err_from_is_err_and c.from_residual.result c.from_residual.ensures.1 in
    rw (p.1, p.2) (text_cause RefusedJob c.args.input.now c.in_err-part.field-0.0 c.in_err-part.ensures.cause)

pub returns-in_err-part-clause-complete : goal.returns-in_err-part-clause-complete
returns-in_err-part-clause-complete c =
    λ m job given.
    let p = err_from_is_err_and c.from_residual.result c.from_residual.ensures.1 in
    rw (p.1, p.2) (c.in_err-part.ensures.complete given.place m given.marker given.text)

pub returns-in_err-part-clause-no_job : goal.returns-in_err-part-clause-no_job
returns-in_err-part-clause-no_job c =
    λ none.
    let p = err_from_is_err_and c.from_residual.result c.from_residual.ensures.1 in
    let told = c.in_err-part.ensures.no_job none in
    cc (p.1, p.2, told)

pub returns-in_err-part-clause-memory : goal.returns-in_err-part-clause-memory
returns-in_err-part-clause-memory c =
    λ same.
    let p = err_from_is_err_and c.from_residual.result c.from_residual.ensures.1 in
    let lacks : c.in_err-part.field-0.0 ≡ NoMemory = cc (p.1, p.2, same) in
    let told = c.in_err-part.ensures.memory (ap Err lacks) in
    (told.0, told.1, inl told.2)

-- ---- the job is none

pub returns-in-Err-clause-cause : goal.returns-in-Err-clause-cause
returns-in-Err-clause-cause c =
    let part = c.in_ok-part.part in
    let known = c.in_ok-part.ensures in
    let R : List ℕ → Type 0 = λ t. (c.in-Err.error ≡ jobs.NoMemory) ⊎ RefusedJob t part.«module» c.in-Err.error in
    subst (HasCause (RefusesRun c.args.input.now)) (sym c.of_job.ensures) (job_error RefusedJob c.args.input.now part.place part.«module» c.in-Err.error known.marker known.stands (subst R c.job_part.ensures c.in-Err.ensures.refused))

pub returns-in-Err-clause-complete : goal.returns-in-Err-clause-complete
returns-in-Err-clause-complete c =
    let part = c.in_ok-part.part in
    let known = c.in_ok-part.ensures in
    let one : (m : Module) → IsModuleText (module_part c.args.input.now part.place) m → part.«module» ≡ m = λ m h. known.complete part.place m known.marker h in
    let only : (j : RunJob) → IsRunJob (job_part c.args.input.now part.place) part.«module» j → c.in-Err.error ≡ jobs.NoMemory =
    λ j h. c.in-Err.ensures.complete j (subst (λ (t : List ℕ). IsRunJob t part.«module» j) (sym c.job_part.ensures) h) in
    λ types job given. c.of_job.ensures ∙ job_errors IsRunJob c.args.input.now part.place part.«module» c.in-Err.error jobs.NoMemory known.marker one only types job given

pub returns-in-Err-clause-no_job : goal.returns-in-Err-clause-no_job
returns-in-Err-clause-no_job c = λ none. absurd (none c.in_ok-part.part.place c.in_ok-part.ensures.marker.marker)

pub returns-in-Err-clause-memory : goal.returns-in-Err-clause-memory
returns-in-Err-clause-memory c =
    λ same.
    let told = c.in-Err.ensures.memory (ap Err (job_memory c.in-Err.error c.of_job.result c.of_job.ensures (same_error _ _ same))) in
    let P : List ℕ → Type 0 = λ bytes. 0 < length bytes in
    (c.in_ok-part.part.place, c.in_ok-part.ensures.marker, inr (subst P c.job_part.ensures told))

-- ---- the input has its job

pub returns-in-Ok-clause-input : goal.returns-in-Ok-clause-input
returns-in-Ok-clause-input c =
    let part = c.in_ok-part.part in
    let known = c.in_ok-part.ensures in
    record {
      place = part.place;
      marker = known.marker;
      text = known.stands;
      good = subst (λ (t : List ℕ). IsRunJob t part.«module» c.in-Ok.job) c.job_part.ensures c.in-Ok.ensures.job;
    }

pub returns-in-Ok-clause-refused : goal.returns-in-Ok-clause-refused
returns-in-Ok-clause-refused c =
    let part = c.in_ok-part.part in
    let known = c.in_ok-part.ensures in
    let one : (m : Module) → IsModuleText (module_part c.args.input.now part.place) m → part.«module» ≡ m = λ m h. known.complete part.place m known.marker h in
    let text : (e : FrontError) → RefusedBy (module_part c.args.input.now part.place) e → ⊥ = λ e h. false≢true (known.refused (BadModule e) (part.place, known.marker, h)) in
    let job : (e : JobError) → RefusedJob (job_part c.args.input.now part.place) part.«module» e → ⊥ =
    λ e h. no_error c.in-Ok.job e jobs.NoMemory (c.in-Ok.ensures.exact e (subst (λ (t : List ℕ). RefusedJob t part.«module» e) (sym c.job_part.ensures) h)) in
    λ refusal h. absurd (nothing_refuses RefusedJob c.args.input.now part.place part.«module» known.marker one text job refusal h)

pub returns-in-Ok-clause-no_job : goal.returns-in-Ok-clause-no_job
returns-in-Ok-clause-no_job c = λ none. absurd (none c.in_ok-part.part.place c.in_ok-part.ensures.marker.marker)

pub returns-in-Ok-clause-sound : goal.returns-in-Ok-clause-sound
returns-in-Ok-clause-sound c =
    let known = c.in_ok-part.ensures in
    let read = c.in-Ok.ensures in
    sound_job c.in_ok-part.part.«module» c.in-Ok.job c.evaluated_is_sound.ensures known.checked read.entry read.values (let limit = read.room.limit in omega (arith, limit))

pub read_run_job-requires : goal.read_run_job-requires
read_run_job-requires c =
    let checked = c.in_ok-part.ensures.checked in
    record { formed = checked.formed; copying = checked.copying; kinds = checked.kinds; safe = checked.safe }
