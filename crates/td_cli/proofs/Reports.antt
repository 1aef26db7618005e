-- Equal reports of one module are of equal runs.
use Rattle.std.proofs.Common.{◌≡◌, ℕ, List, Option, sym, ap, ◌∙◌, subst}
use Rattle.td_stream.specs.declared.stretch.Stretch.{Stretch}
use Rattle.std.specs.List.{All}
use Rattle.td_core.specs.declared.module.Module.{Module}
use Rattle.td_core.specs.declared.outcome.Outcome.{Outcome}
use Rattle.td_stream.specs.declared.load.Load.{Load}
use Rattle.td_front.specs.Checked.{IsChecked}
use Rattle.td_front.specs.Laws.{ModulesAreChecked}
use Rattle.td_job.specs.declared.run_job.RunJob.{RunJob}
use Rattle.td_report.specs.Laws.{IsShownLoad, shown_loads, ReportsDetermineOutcomes, ShownLoadsAreOne}
use Rattle.td_report.specs.Report.{report}
use Rattle.td_report_facts.specs.Laws.{IsSized, JobsAreSized, ModulesHaveWords, IsReportableOutcome, RunsAreReportable, LoadsAreReportable}
use Rattle.td_cli.specs.Run.{message_of, IsRunOf}
use Rattle.td_cli.specs.Answers.{IsReport}
use Rattle.td_cli_input.specs.Marker.{module_part, job_part}
use Rattle.td_cli.specs.Laws.{ReportsDetermineRuns}
use Rattle.td_cli.proofs.OneRun.{SomeCarry}
use Rattle.td_num.proofs.Digits.{are_bytes as bytes_of}

-- what the crates below say
pub record Below : Type 0 where
  pub checked : ModulesAreChecked
  pub sized : JobsAreSized
  pub words : ModulesHaveWords
  pub runs : RunsAreReportable
  pub loads : LoadsAreReportable
  pub carry : SomeCarry
  pub determine : ReportsDetermineOutcomes
  pub one : ShownLoadsAreOne

run_told : Below → (m : Module) (job : RunJob) (o : Outcome) (loads : List Load) → IsChecked m → IsSized m job → IsRunOf m job o loads → IsReportableOutcome m job.entry o
run_told below m job o loads c s h =
    let message = below.carry (message_of job) loads h.fetched.rising in
    let bytes = bytes_of message.0 message.2 in
    subst (IsReportableOutcome m job.entry) (h.fetched.holds message.0 message.1 bytes).same (below.runs m job message.0 c s bytes (message.1.size ∙ s.long))

module _ (below : Below) (input text : List ℕ) (a : IsReport input text) where
  is_checked : IsChecked a.m
  is_checked = below.checked (module_part input a.input_is.place) a.m a.input_is.text

  is_sized : IsSized a.m a.job
  is_sized = below.sized (job_part input a.input_is.place) a.m a.job is_checked a.input_is.good

  told : IsReportableOutcome a.m a.job.entry a.outcome
  told = run_told below a.m a.job a.outcome a.loads is_checked is_sized a.run

  shown : All (IsShownLoad a.job.layout) a.loads
  shown = below.loads a.m a.job a.loads is_sized a.run.fetched.inside a.run.held

pub reports_determine_runs : Below → ReportsDetermineRuns
reports_determine_runs below one other text a b same =
    let words = below.words a.m (is_checked below one text a) in
    let first = told below one text a in
    let second : IsReportableOutcome a.m b.job.entry b.outcome = subst (λ m. IsReportableOutcome m b.job.entry b.outcome) (sym same) (told below other text b) in
    let equal : report a.outcome a.m a.job.entry a.loads a.job.layout a.job.written ≡ report b.outcome a.m b.job.entry b.loads b.job.layout b.job.written = sym a.text_is ∙ b.text_is ∙ ap (λ m. report b.outcome m b.job.entry b.loads b.job.layout b.job.written) (sym same) in
    let one_shown = shown below one text a in
    let other_shown = shown below other text b in
    let parts =
    below.determine a.m a.outcome b.outcome a.job.entry b.job.entry a.job.layout b.job.layout a.job.written b.job.written a.loads b.loads words.0 words.1
    first.named second.named first.frames second.frames first.cells second.cells first.copies second.copies one_shown other_shown (is_sized below one text a).written (is_sized below other text b).written equal in
    let alike = λ (over : a.job.layout ≡ b.job.layout).
    below.one a.job.layout a.loads b.loads one_shown (subst (λ (l : Option (List Stretch)). All (IsShownLoad l) b.loads) (sym over) other_shown)
    (parts.4 ∙ ap (λ (l : Option (List Stretch)). shown_loads l b.loads) (sym over)) in
    (parts.0, parts.1, parts.2, parts.3, parts.4, alike, parts.5)
