-- What holds of all that the report of a run prints.
use Rattle.std.specs.Prelude.{◌≡◌, ℕ, ◌^◌, ◌<◌, ◌≤◌, List, length, slice_index, Option, Some, None}
use Rattle.std.specs.List.{All}
use Rattle.td_num.specs.Lists.{AreBytes}
use Rattle.td_report_facts.specs.Imports.{Module, Entry, Outcome, Load, Stretch, PlannedStore, RunJob, Step, Mail}
use Rattle.td_core.specs.Entries.{entry_definition}
use Rattle.td_core.specs.Formed.{AllFit, params_at, cells_at}
use Rattle.td_stream.specs.declared.layout.TheConstants.{MOST_STRETCHES}
use Rattle.td_stream.specs.Layouts.{length_in, layout_or_plain}
use Rattle.td_stream.specs.Loads.{Inside, buffered}
use Rattle.td_sched.specs.Plan.{ArePlanned}
use Rattle.td_meaning.specs.Copies.{outcome}
use Rattle.td_front.specs.Checked.{IsChecked}
use Rattle.td_job.specs.declared.checks.TheConstants.{MOST_BYTES}
use Rattle.td_job.specs.Jobs.{IsRunJob, HasValues}
use Rattle.td_posts.specs.declared.job.HostJob.{HostJob}
use Rattle.td_posts.specs.Posts.{IsVersion, list_of, stores_of, zeros, HaveRoom}
use Rattle.td_posts.specs.Servable.{job_mails}
use Rattle.td_job_host.specs.HostJobs.{rooms_in, IsHostJob, KeepsLimits}
use Rattle.td_report.specs.Laws.{HasWords, HasNoSpotWord, IsNamedOutcome, HasFrames, HasCells, HasCopies, IsShownLoad, IsWritten}

-- few stretches, at places of 64 bits
pub record IsSizedLayout (layout : List Stretch) : Type 0 where
  pub few : length layout ≤ MOST_STRETCHES
  pub places : All (λ (s : Stretch). s.place < 2 ^ 64) layout

abbrev pub AreSized : Option (List Stretch) → Type 0
AreSized None = Unit {0}
AreSized (Some layout) = IsSizedLayout layout

-- of a run job the entry point is one of the module's, each parameter and cell has a value that fits, the message is as long as
-- said and not too long, its stretches are few and at places of 64 bits, words and stores are of 64 bits, and what was written of a value
-- are bytes
pub record IsSized (m : Module) (j : RunJob) : Type 0 where
  pub entry : j.entry.number < length m.entries
  pub values : HasValues m j
  pub long : length_in (layout_or_plain j.length j.layout) ≡ j.length
  pub limit : j.length ≤ MOST_BYTES
  pub stretches : AreSized j.layout
  pub words : All (λ word. word < 2 ^ 64) j.words
  pub stores : All (λ (s : PlannedStore). s.value < 2 ^ 64) j.stores
  pub written : IsWritten j.written

abbrev pub JobsAreSized : Type 0
JobsAreSized = (bytes : List ℕ) (m : Module) (j : RunJob) → IsChecked m → IsRunJob bytes m j → IsSized m j

-- a script stores numbers of 64 bits alone
abbrev pub StoresSmall : List Step → Type 0
StoresSmall script = All (λ (s : ℕ × ℕ). s.1 < 2 ^ 64) (stores_of script)

-- a host job keeps its limits, its posts' stretches are few and at places of 64 bits, and its words and stores are of 64 bits
pub record IsHostSized (m : Module) (j : HostJob) : Type 0 where
  pub kept : KeepsLimits m j
  pub stretches : All (λ (mail : Mail). AreSized (list_of mail)) (job_mails j)
  pub words : (i : ℕ) → slice_index j.words i < 2 ^ 64
  pub stores : All StoresSmall j.guests

abbrev pub HostJobsAreSized : Type 0
HostJobsAreSized = (bytes : List ℕ) (m : Module) (j : HostJob) → IsHostJob bytes m j → IsHostSized m j

-- a checked module's names are words or two joined by a dot, its types' all the one or all the other, no two names alike, and none is
-- `where` or `switch`
abbrev pub ModulesHaveWords : Type 0
ModulesHaveWords = (m : Module) → IsChecked m → HasWords m × HasNoSpotWord m

-- what a report prints of an outcome can be read back: names, numbers of 64 bits, a value for each cell, and bytes for each copy buffer
pub record IsReportableOutcome (m : Module) (entry : Entry) (o : Outcome) : Type 0 where
  pub named : IsNamedOutcome m o
  pub frames : HasFrames o.verdict o.trace
  pub cells : HasCells m entry o
  pub copies : HasCopies m entry o

-- so is the outcome that a checked module has on any message of at most a MiB, from an entry point of it, with arguments and cells that fit
abbrev pub OutcomesAreReportable : Type 0
OutcomesAreReportable =
    (m : Module) (entry : Entry) (args cells message : List ℕ) → IsChecked m → entry.number < length m.entries
    → AllFit (params_at (entry_definition m entry.number)) args → AllFit (cells_at (entry_definition m entry.number)) cells → AreBytes message → length message ≤ MOST_BYTES
    → IsReportableOutcome m entry (outcome m entry args cells message)

-- and what it copies fits the rooms of the entry point's copy buffers, on any message that has a length
abbrev pub CopiesHaveRoom : Type 0
CopiesHaveRoom =
    (m : Module) (entry : Entry) (args cells message : List ℕ) → IsChecked m → entry.number < length m.entries
    → AllFit (params_at (entry_definition m entry.number)) args → AllFit (cells_at (entry_definition m entry.number)) cells → AreBytes message → length message < 2 ^ 32
    → HaveRoom (rooms_in (entry_definition m entry.number)) (outcome m entry args cells message).copies

-- so is the outcome that a checked module has on any message of a job's length
abbrev pub RunsAreReportable : Type 0
RunsAreReportable =
    (m : Module) (j : RunJob) (message : List ℕ) → IsChecked m → IsSized m j → AreBytes message → length message ≡ j.length →
    IsReportableOutcome m j.entry (outcome m j.entry j.args j.cells message)

-- and the outcome that a version of a host job has, from cells of zeros, on any message that the job may have
abbrev pub RepliesAreReportable : Type 0
RepliesAreReportable =
    (m : Module) (j : HostJob) (message : List ℕ) (n : ℕ) (f : Module) (entry : Entry) → IsVersion j n f entry → IsChecked f → IsHostSized m j → AreBytes message → length message ≤ MOST_BYTES →
    IsReportableOutcome f entry (outcome f entry j.args (zeros j.cells) message)

-- so are the loads of a run job's words, each named as the message has it
abbrev pub LoadsAreReportable : Type 0
LoadsAreReportable =
    (m : Module) (j : RunJob) (loads : List Load) → IsSized m j → Inside (layout_or_plain j.length j.layout) loads → ArePlanned j.words j.stores 0 (buffered j.layout loads) →
    All (IsShownLoad j.layout) loads
