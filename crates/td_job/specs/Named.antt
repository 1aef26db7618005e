-- Jobs that name their entry point by text, and what is wrong with one (own rule): what is wrong with the run job that a JSON
-- text of the same entry, arguments, cells, words, length and stores, without stretches or a value, stands for, in the same order, by the same codes.
use Rattle.std.specs.Prelude.{◌≡◌, ℕ, ◌+◌, List, [], ◌∷◌, ◌++◌, length, not, nat_eq, nat_lt, nat_le, Some, None, ◌⊎◌}
use Rattle.td_job.specs.Imports.{Module, Entry, PlannedStore}
use Rattle.td_core.specs.Entries.{entry_definition}
use Rattle.td_core.specs.Formed.{Bound, params_at, cells_at}
use Rattle.td_job.specs.declared.error.Key.{Key}
use Rattle.td_job.specs.declared.error.Key.TheVariants as key
use Rattle.td_job.specs.declared.error.JobRule.TheVariants as rule
use Rattle.td_job.specs.declared.error.Path.TheVariants as path
use Rattle.td_job.specs.declared.error.JobError.{JobError}
use Rattle.td_job.specs.declared.error.JobError.TheVariants.{Fault}
use Rattle.td_job.specs.declared.checks.TheConstants.{MOST_BYTES}
use Rattle.td_job.specs.declared.stores.TheConstants.{MOST_STORES}
use Rattle.td_job.specs.declared.named.NamedJob.{NamedJob}
use Rattle.td_job.specs.declared.run_job.RunJob.{RunJob}
use Rattle.td_job.specs.Fields.{fault_if, IsFirst}
use Rattle.td_job.specs.Values.{value_faults}
use Rattle.td_job.specs.Jobs.{EntryFault, IsEntry}

-- numbers, one by one, each of which fits (J4)
abbrev pub each_number_faults : Key → ℕ → List Bound → List ℕ → List JobError
each_number_faults k i [] numbers = []
each_number_faults k i (bound ∷ bounds) [] = []
each_number_faults k i (bound ∷ bounds) (n ∷ numbers) = value_faults (path.Element k i) bound.most (Some n) ++ each_number_faults k (i + 1) bounds numbers

-- as many numbers as there are parameters or cells (J4)
abbrev pub number_faults : Key → List Bound → List ℕ → List JobError
number_faults k bounds numbers = fault_if (not (nat_eq (length numbers) (length bounds))) (Fault rule.Values (path.Whole k)) ++ each_number_faults k 0 bounds numbers

-- the length is at most a MiB (J8)
abbrev pub limit_faults : ℕ → List JobError
limit_faults n = fault_if (nat_lt MOST_BYTES n) (Fault rule.Limit (path.Whole key.Length))

-- each store's word is one of the message's (J6)
abbrev pub each_word_faults : ℕ → ℕ → List PlannedStore → List JobError
each_word_faults words i [] = []
each_word_faults words i (s ∷ stores) = fault_if (nat_le words s.word) (Fault rule.NoWord (path.Element key.Stores i)) ++ each_word_faults words (i + 1) stores

-- at most 65,536 stores (J8)
abbrev pub word_faults : ℕ → List PlannedStore → List JobError
word_faults words stores = fault_if (nat_lt MOST_STORES (length stores)) (Fault rule.Limit (path.Whole key.Stores)) ++ each_word_faults words 0 stores

-- the faults of a job after those of its entry point, whose parameters and cells have these bounds
abbrev pub bounded_faults : List Bound → List Bound → NamedJob → List JobError
bounded_faults args cells job =
    number_faults key.Args args job.args
    ++ number_faults key.Cells cells job.cells
    ++ limit_faults job.length
    ++ word_faults (length job.words) job.stores

abbrev pub named_faults : Module → Entry → NamedJob → List JobError
named_faults m entry job = bounded_faults (params_at (entry_definition m entry.number)) (cells_at (entry_definition m entry.number)) job

-- the first fault of a job
abbrev pub FirstNamedFault : Module → NamedJob → JobError → Type 0
FirstNamedFault m job e =
    EntryFault m (Some job.entry) e
    ⊎ ((entry : Entry) × IsEntry m (Some job.entry) entry × IsFirst (named_faults m entry job) e)

-- the run job that a job without a fault is: its entry point is the first of the name, and all else is as it was
pub record IsNamedJob (m : Module) (job : NamedJob) (j : RunJob) : Type 0 where
  pub named : IsEntry m (Some job.entry) j.entry
  pub faultless : named_faults m j.entry job ≡ []
  pub args : j.args ≡ job.args
  pub cells : j.cells ≡ job.cells
  pub words : j.words ≡ job.words
  pub as_long : j.length ≡ job.length
  pub layout : j.layout ≡ None
  pub written : j.written ≡ None
  pub stored : j.stores ≡ job.stores
