use Rattle.std.proofs.Common.{◌≡◌, ℕ, ◌<◌, List, length, Err, subst, sym, ap, ◌∙◌, ◌⊎◌, inl, inr}
use Rattle.std.proofs.lemmas.Bool.{false≢true}
use Rattle.std.proofs.lemmas.Result.{err_from_is_err_and}
use Rattle.td_cli_input.specs.Imports.{Module, FrontError, HostJob, JobError}
use Rattle.td_front.specs.ModuleText.{IsModuleText, RefusedBy}
use Rattle.td_job.specs.declared.error.JobError.TheVariants as jobs
use Rattle.td_job_host.specs.HostJobs.{IsHostJob, RefusedHostJob}
use Rattle.td_cli_input.specs.declared.refusal.Refusal.TheVariants.{BadModule}
use Rattle.td_cli_input.specs.declared.refusal.InputError.TheVariants.{NoMemory}
use Rattle.td_cli_input.specs.Causes.{HasCause}
use Rattle.td_cli_input.specs.Marker.{module_part, job_part}
use Rattle.td_cli_input.specs.Inputs.{RefusesHost}
use Rattle.td_cli_input.proofs.Memory.{job_memory}
use Rattle.td_cli_input.proofs.Inputs.{text_cause, job_error, job_errors, nothing_refuses, no_error}
use Rattle.td_cli_input.proofs.Sounds.{all_checked, sound_host, fits_versions}
use Rattle.td_cli_input.proofs.host.parse_host_input.Goals as goal
use Rattle.td_num.proofs.Equals.{same_error}

-- ---- there is no marker, or the text is no module

pub returns-in_err-part-clause-cause : goal.returns-in_err-part-clause-cause
returns-in_err-part-clause-cause c =
    let p = err_from_is_err_and c.from_residual.result c.from_residual.ensures.1 in
    rw (p.1, p.2) (text_cause RefusedHostJob c.args.input.now c.in_err-part.field-0.0 c.in_err-part.ensures.cause)

pub returns-in_err-part-clause-complete : goal.returns-in_err-part-clause-complete
returns-in_err-part-clause-complete c =
    λ m job given.
    let p = err_from_is_err_and c.from_residual.result c.from_residual.ensures.1 in
    rw (p.1, p.2) (c.in_err-part.ensures.complete given.place m given.marker given.text)

pub returns-in_err-part-clause-no_job : goal.returns-in_err-part-clause-no_job
returns-in_err-part-clause-no_job c =
    λ none.
    let p = err_from_is_err_and c.from_residual.result c.from_residual.ensures.1 in
    let told = c.in_err-part.ensures.no_job none in
    cc (p.1, p.2, told)

pub returns-in_err-part-clause-memory : goal.returns-in_err-part-clause-memory
returns-in_err-part-clause-memory c =
    λ same.
    let p = err_from_is_err_and c.from_residual.result c.from_residual.ensures.1 in
    let lacks : c.in_err-part.field-0.0 ≡ NoMemory = cc (p.1, p.2, same) in
    let told = c.in_err-part.ensures.memory (ap Err lacks) in
    (told.0, told.1, inl told.2)

-- ---- the job is none

pub returns-in-Err-clause-cause : goal.returns-in-Err-clause-cause
returns-in-Err-clause-cause c =
    let part = c.in_ok-part.part in
    let known = c.in_ok-part.ensures in
    let R : List ℕ → Type 0 = λ t. (c.in-Err.error ≡ jobs.NoMemory) ⊎ RefusedHostJob t part.«module» c.in-Err.error in
    subst (HasCause (RefusesHost c.args.input.now)) (sym c.of_job.ensures) (job_error RefusedHostJob c.args.input.now part.place part.«module» c.in-Err.error known.marker known.stands (subst R c.job_part.ensures c.in-Err.ensures.refused))

pub returns-in-Err-clause-complete : goal.returns-in-Err-clause-complete
returns-in-Err-clause-complete c =
    let part = c.in_ok-part.part in
    let known = c.in_ok-part.ensures in
    let one : (m : Module) → IsModuleText (module_part c.args.input.now part.place) m → part.«module» ≡ m = λ m h. known.complete part.place m known.marker h in
    let only : (j : HostJob) → IsHostJob (job_part c.args.input.now part.place) part.«module» j → c.in-Err.error ≡ jobs.NoMemory =
    λ j h. c.in-Err.ensures.complete j (subst (λ (t : List ℕ). IsHostJob t part.«module» j) (sym c.job_part.ensures) h) in
    λ types job given. c.of_job.ensures ∙ job_errors IsHostJob c.args.input.now part.place part.«module» c.in-Err.error jobs.NoMemory known.marker one only types job given

pub returns-in-Err-clause-no_job : goal.returns-in-Err-clause-no_job
returns-in-Err-clause-no_job c = λ none. absurd (none c.in_ok-part.part.place c.in_ok-part.ensures.marker.marker)

pub returns-in-Err-clause-memory : goal.returns-in-Err-clause-memory
returns-in-Err-clause-memory c =
    λ same.
    let told = c.in-Err.ensures.memory (ap Err (job_memory c.in-Err.error c.of_job.result c.of_job.ensures (same_error _ _ same))) in
    let P : List ℕ → Type 0 = λ bytes. 0 < length bytes in
    (c.in_ok-part.part.place, c.in_ok-part.ensures.marker, inr (subst P c.job_part.ensures told))

-- ---- the input has its job

pub returns-in-Ok-clause-input : goal.returns-in-Ok-clause-input
returns-in-Ok-clause-input c =
    let part = c.in_ok-part.part in
    let known = c.in_ok-part.ensures in
    record {
      place = part.place;
      marker = known.marker;
      text = known.stands;
      good = subst (λ (t : List ℕ). IsHostJob t part.«module» c.in-Ok.job) c.job_part.ensures c.in-Ok.ensures.job;
    }

pub returns-in-Ok-clause-refused : goal.returns-in-Ok-clause-refused
returns-in-Ok-clause-refused c =
    let part = c.in_ok-part.part in
    let known = c.in_ok-part.ensures in
    let one : (m : Module) → IsModuleText (module_part c.args.input.now part.place) m → part.«module» ≡ m = λ m h. known.complete part.place m known.marker h in
    let text : (e : FrontError) → RefusedBy (module_part c.args.input.now part.place) e → ⊥ = λ e h. false≢true (known.refused (BadModule e) (part.place, known.marker, h)) in
    let job : (e : JobError) → RefusedHostJob (job_part c.args.input.now part.place) part.«module» e → ⊥ =
    λ e h. no_error c.in-Ok.job e jobs.NoMemory (c.in-Ok.ensures.exact e (subst (λ (t : List ℕ). RefusedHostJob t part.«module» e) (sym c.job_part.ensures) h)) in
    λ refusal h. absurd (nothing_refuses RefusedHostJob c.args.input.now part.place part.«module» known.marker one text job refusal h)

pub returns-in-Ok-clause-no_job : goal.returns-in-Ok-clause-no_job
returns-in-Ok-clause-no_job c = λ none. absurd (none c.in_ok-part.part.place c.in_ok-part.ensures.marker.marker)

pub returns-in-Ok-clause-checked : goal.returns-in-Ok-clause-checked
returns-in-Ok-clause-checked c = all_checked c.in_ok-part.part.«module» c.in_ok-part.ensures.checked c.modules_are_checked.ensures c.in-Ok.job.formats c.in-Ok.ensures.values.stand

pub returns-in-Ok-clause-first : goal.returns-in-Ok-clause-first
returns-in-Ok-clause-first c = c.in-Ok.ensures.values.first

pub returns-in-Ok-clause-fits : goal.returns-in-Ok-clause-fits
returns-in-Ok-clause-fits c = fits_versions c.in_ok-part.part.«module» c.in-Ok.job c.in-Ok.ensures.values

pub returns-in-Ok-clause-sound : goal.returns-in-Ok-clause-sound
returns-in-Ok-clause-sound c =
    sound_host c.in_ok-part.part.«module» c.in-Ok.job c.evaluated_is_sound.ensures
    (all_checked c.in_ok-part.part.«module» c.in_ok-part.ensures.checked c.modules_are_checked.ensures c.in-Ok.job.formats c.in-Ok.ensures.values.stand) c.in-Ok.ensures.values
