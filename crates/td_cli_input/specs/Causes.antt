-- Why an input has no answer.
use Rattle.std.specs.Prelude.{◌⊎◌, ℕ, ◌<◌, List, length}
use Rattle.td_lexer.specs.Splits.{HasToken}
use Rattle.td_cli_input.specs.Imports.{FrontError, JobError}
use Rattle.td_front.specs.declared.error.FrontError.TheVariants as front
use Rattle.td_job.specs.declared.error.JobError.TheVariants as jobs
use Rattle.td_cli_input.specs.declared.refusal.Refusal.{Refusal}
use Rattle.td_cli_input.specs.declared.refusal.Refusal.TheVariants.{BadModule, BadJob}
use Rattle.td_cli_input.specs.declared.refusal.InputError.{InputError}
use Rattle.td_cli_input.specs.declared.refusal.InputError.TheVariants.{Refused, NoMemory}
use Rattle.td_cli_input.specs.Marker.{IsFirstMarker, module_part, job_part}

-- a refusal has its cause; that there was no memory needs none
abbrev pub HasCause : (Refusal → Type 0) → InputError → Type 0
HasCause Refuses NoMemory = Unit {0}
HasCause Refuses (Refused refusal) = Refuses refusal

-- that there was no memory is never held by a refusal
abbrev pub of_module : FrontError → InputError
of_module front.NoMemory = NoMemory
of_module error = Refused (BadModule error)

abbrev pub of_job : JobError → InputError
of_job jobs.NoMemory = NoMemory
of_job error = Refused (BadJob error)

-- the input has a marker, and before it a token: for no other is memory taken for the module
abbrev pub HasTextToken : List ℕ → Type 0
HasTextToken input = (n : ℕ) × IsFirstMarker input n × HasToken (module_part input n)

-- the input has a marker, and before it a token, or after its line a byte: for no other is memory taken
abbrev pub HasParts : List ℕ → Type 0
HasParts input = (n : ℕ) × IsFirstMarker input n × (HasToken (module_part input n) ⊎ (0 < length (job_part input n)))
