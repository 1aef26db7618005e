-- Inputs: a module text, a marker and a job; and what refuses one that isn't too long (own rule).
use Rattle.std.specs.Prelude.{◌≡◌, ℕ, ◌<◌, ◌^◌, List, length}
use Rattle.td_num.specs.Lists.{AreBytes}
use Rattle.td_core.specs.Entries.{entry_definition}
use Rattle.td_core.specs.Formed.{AllFit, params_at, cells_at}
use Rattle.td_cli_input.specs.Imports.{Module, JobError, RunJob, HostJob}
use Rattle.td_core.specs.declared.module.Entry.{Entry}
use Rattle.td_meaning.specs.Copies.{IsSoundOn, IsSoundFrom}
use Rattle.td_front.specs.ModuleText.{IsModuleText, RefusedBy}
use Rattle.td_job.specs.Jobs.{IsRunJob, RefusedJob}
use Rattle.td_posts.specs.Posts.{IsVersion, zeros}
use Rattle.td_job_host.specs.HostJobs.{rooms_in, IsHostJob, RefusedHostJob}
use Rattle.td_cli_input.specs.declared.refusal.Refusal.{Refusal}
use Rattle.td_cli_input.specs.declared.refusal.Refusal.TheVariants.{TooLong, NoJob, BadModule, BadJob, NoRing}
use Rattle.td_cli_input.specs.Marker.{IsMarker, IsFirstMarker, module_part, job_part}

-- the input is a module text, a marker and a job, as jobs of this kind are read
pub record IsInputOf {J : Type 0} (Is : List ℕ → Module → J → Type 0) (input : List ℕ) (m : Module) (job : J) : Type 0 where
  pub place : ℕ
  pub marker : IsFirstMarker input place
  pub text : IsModuleText (module_part input place) m
  pub good : Is (job_part input place) m job

-- why an input that isn't too long is refused before its job is looked at: it has no marker, or the text before that is no module
abbrev pub RefusesText : List ℕ → Refusal → Type 0
RefusesText input TooLong = ⊥
RefusesText input NoJob = (n : ℕ) → IsMarker input n → ⊥
RefusesText input (BadModule e) = (n : ℕ) × IsFirstMarker input n × RefusedBy (module_part input n) e
RefusesText input (BadJob e) = ⊥
RefusesText input NoRing = ⊥

-- why it is refused, as jobs of this kind are refused
abbrev pub RefusesInput : (List ℕ → Module → JobError → Type 0) → List ℕ → Refusal → Type 0
RefusesInput Bad input (BadJob e) = (n : ℕ) × (m : Module) × IsFirstMarker input n × IsModuleText (module_part input n) m × Bad (job_part input n) m e
RefusesInput Bad input refusal = RefusesText input refusal

-- ---- run jobs

abbrev pub IsRunInput : List ℕ → Module → RunJob → Type 0
IsRunInput = IsInputOf IsRunJob

abbrev pub RefusesRun : List ℕ → Refusal → Type 0
RefusesRun = RefusesInput RefusedJob

-- whatever bytes the job's message has, each expression that the meaning evaluates lies in its type's range
abbrev pub IsSoundJob : Module → RunJob → Type 0
IsSoundJob m job = (b : List ℕ) → AreBytes b → length b ≡ job.length → IsSoundOn m job.entry job.args job.cells b

-- ---- host jobs

abbrev pub IsHostInput : List ℕ → Module → HostJob → Type 0
IsHostInput = IsInputOf IsHostJob

abbrev pub RefusesHost : List ℕ → Refusal → Type 0
RefusesHost = RefusesInput RefusedHostJob

-- whatever bytes a message has, each expression that the meaning of a version evaluates from cells of zeros lies in its type's range
abbrev pub IsSoundHost : HostJob → Type 0
IsSoundHost job =
    (n : ℕ) (m : Module) (entry : Entry) → IsVersion job n m entry → IsSoundFrom m entry job.args (zeros job.cells)

-- the entry point is the module's, each of its parameters has its value, its cells are zeros, each in its range, and its copy buffers
-- have the job's rooms
pub record FitsEntry (job : HostJob) (m : Module) (entry : Entry) : Type 0 where
  pub entry_is : entry.number < length m.entries
  pub args : AllFit (params_at (entry_definition m entry.number)) job.args
  pub cells : AllFit (cells_at (entry_definition m entry.number)) (zeros job.cells)
  pub rooms : job.rooms ≡ rooms_in (entry_definition m entry.number)

-- so it is for each version
abbrev pub FitsVersions : HostJob → Type 0
FitsVersions job = (n : ℕ) (m : Module) (entry : Entry) → IsVersion job n m entry → FitsEntry job m entry
