-- What holds of host jobs and their faults.
use Rattle.std.specs.Prelude.{◌≡◌, ℕ, List, ◌⊎◌}
use Rattle.td_job_host.specs.Imports.{Module, JobError, HostJob}
use Rattle.td_job_host.specs.HostJobs.{IsHostJob, RefusedHostJob, KeepsLimits}

-- bytes stand for at most one host job
abbrev pub OneHostJobEach : Type 0
OneHostJobEach = (bytes : List ℕ) (m : Module) (a b : HostJob) → IsHostJob bytes m a → IsHostJob bytes m b → a ≡ b

-- bytes have at most one fault
abbrev pub OneHostFaultEach : Type 0
OneHostFaultEach = (bytes : List ℕ) (m : Module) (e f : JobError) → RefusedHostJob bytes m e → RefusedHostJob bytes m f → e ≡ f

-- bytes that stand for a host job have no fault
abbrev pub NeverBothHost : Type 0
NeverBothHost = (bytes : List ℕ) (m : Module) (j : HostJob) (e : JobError) → IsHostJob bytes m j → RefusedHostJob bytes m e → ⊥

-- bytes stand for a host job or have a fault
abbrev pub AlwaysOneHost : Type 0
AlwaysOneHost = (bytes : List ℕ) (m : Module) → ((j : HostJob) × IsHostJob bytes m j) ⊎ ((e : JobError) × RefusedHostJob bytes m e)

-- each host job keeps the limits
abbrev pub HostJobsKeepLimits : Type 0
HostJobsKeepLimits = (bytes : List ℕ) (m : Module) (j : HostJob) → IsHostJob bytes m j → KeepsLimits m j
