-- What holds of jobs and their faults.
use Rattle.std.specs.Prelude.{◌≡◌, ℕ, List, None, ◌⊎◌}
use Rattle.td_job.specs.Imports.{Module, Entry}
use Rattle.td_job.specs.declared.error.JobError.{JobError}
use Rattle.td_job.specs.declared.run_job.RunJob.{RunJob}
use Rattle.serde_json.specs.Data.{Data}
use Rattle.td_job.specs.declared.error.Key.TheVariants as key
use Rattle.td_job.specs.Fields.{field_of}
use Rattle.td_job.specs.Jobs.{IsRunJob, RefusedJob, from_bytes, given}
use Rattle.td_job.specs.declared.named.NamedJob.{NamedJob}
use Rattle.td_job.specs.Named.{IsNamedJob, FirstNamedFault}

-- bytes stand for at most one run job
abbrev pub OneJobEach : Type 0
OneJobEach = (bytes : List ℕ) (m : Module) (a b : RunJob) → IsRunJob bytes m a → IsRunJob bytes m b → a ≡ b

-- bytes have at most one fault
abbrev pub OneFaultEach : Type 0
OneFaultEach = (bytes : List ℕ) (m : Module) (e f : JobError) → RefusedJob bytes m e → RefusedJob bytes m f → e ≡ f

-- bytes that stand for a run job have no fault
abbrev pub NeverBoth : Type 0
NeverBoth = (bytes : List ℕ) (m : Module) (j : RunJob) (e : JobError) → IsRunJob bytes m j → RefusedJob bytes m e → ⊥

-- bytes stand for a run job or have a fault
abbrev pub AlwaysOne : Type 0
AlwaysOne = (bytes : List ℕ) (m : Module) → ((j : RunJob) × IsRunJob bytes m j) ⊎ ((e : JobError) × RefusedJob bytes m e)

-- a job with a name is at most one run job of a module
abbrev pub OneNamedJobEach : Type 0
OneNamedJobEach = (m : Module) (job : NamedJob) (a b : RunJob) → IsNamedJob m job a → IsNamedJob m job b → a ≡ b

-- it has at most one first fault
abbrev pub OneNamedFaultEach : Type 0
OneNamedFaultEach = (m : Module) (job : NamedJob) (e f : JobError) → FirstNamedFault m job e → FirstNamedFault m job f → e ≡ f

-- and where it is a run job, none
abbrev pub NeverBothNamed : Type 0
NeverBothNamed = (m : Module) (job : NamedJob) (j : RunJob) (e : JobError) → IsNamedJob m job j → FirstNamedFault m job e → ⊥

-- it is a run job or has a first fault
abbrev pub AlwaysOneNamed : Type 0
AlwaysOneNamed = (m : Module) (job : NamedJob) → ((j : RunJob) × IsNamedJob m job j) ⊎ ((e : JobError) × FirstNamedFault m job e)

-- a job without a value says of its message what its bytes, length and stretches say
abbrev pub GivenByBytes : Type 0
GivenByBytes = (m : Module) (entry : Entry) (job : Data) → field_of key.Value job ≡ None → given m entry job ≡ from_bytes job
