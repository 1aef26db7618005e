-- What each command answers an input, and what refuses its input (own rule). One case a command. `bench` has no input, so
-- none of these asks anything of one.
use Rattle.std.specs.Prelude.{◌≡◌, ℕ, ◌<◌, ◌≤◌, List, length}
use Rattle.td_core.specs.declared.module.Module.{Module}
use Rattle.td_core.specs.declared.outcome.Outcome.{Outcome}
use Rattle.td_stream.specs.declared.load.Load.{Load}
use Rattle.td_front.specs.ModuleText.{IsModuleText, RefusedBy}
use Rattle.td_job.specs.declared.run_job.RunJob.{RunJob}
use Rattle.td_report.specs.Report.{report}
use Rattle.td_report.specs.Summary.{summary}
use Rattle.td_print_layout.specs.Definitions.{canonical_text}
use Rattle.td_code.specs.Compile.{IsListing, IsImageOf}
use Rattle.td_cli_command.specs.declared.command.Command.{Command}
use Rattle.td_cli_command.specs.declared.command.Command.TheVariants.{Read as ReadCommand, Host as HostCommand, Bench as BenchCommand}
use Rattle.td_cli_command.specs.declared.command.Reading.TheVariants.{Check as CheckCommand, Tidy as TidyCommand, Code as CodeCommand, Pack as PackCommand, Run as RunCommand}
use Rattle.td_cli_input.specs.declared.refusal.Refusal.{Refusal}
use Rattle.td_cli_input.specs.declared.refusal.Refusal.TheVariants.{TooLong, NoJob, BadModule, BadJob, NoRing}
use Rattle.td_cli.specs.declared.tool.TheConstants.{INPUT_LIMIT}
use Rattle.td_posts.specs.declared.job.HostJob.{HostJob}
use Rattle.td_cli_input.specs.Inputs.{IsRunInput, RefusesRun, IsHostInput}
use Rattle.td_cli_host.specs.Rings.{RingsAreRead}
use Rattle.td_cli_host.specs.ServedInput.{IsHostReport, RefusesServing}
use Rattle.td_cli.specs.Run.{IsRunOf}
use Rattle.td_cli.specs.Bench.{IsBench, AdmitsBench, RefusesBench}

-- ---- run

-- the text is the report of some run of the input's job
pub record IsReport (input text : List ℕ) : Type 0 where
  pub m : Module
  pub job : RunJob
  pub outcome : Outcome
  pub loads : List Load
  pub input_is : IsRunInput input m job
  pub run : IsRunOf m job outcome loads
  pub text_is : text ≡ report outcome m job.entry loads job.layout job.written

-- ---- check

-- the text is that which is told of the module for which the input stands
abbrev pub IsSummary : List ℕ → List ℕ → Type 0
IsSummary input text = (m : Module) × IsModuleText input m × (text ≡ summary m)

-- why an input that isn't too long is refused, by `check`, `tidy`, `code` and `pack`
abbrev pub RefusesCheck : List ℕ → Refusal → Type 0
RefusesCheck input TooLong = ⊥
RefusesCheck input NoJob = ⊥
RefusesCheck input (BadModule e) = RefusedBy input e
RefusesCheck input (BadJob e) = ⊥
RefusesCheck input NoRing = ⊥

-- ---- tidy

-- the text is the canonical one of the module or the parts that the input spells, and the input stands for a module
abbrev pub IsTidy : List ℕ → List ℕ → Type 0
IsTidy input text = (m : Module) × (stands : IsModuleText input m) × (text ≡ canonical_text stands.input)

-- ---- code and pack

-- the text is the listing of the code of the module for which the input stands
abbrev pub IsListingOf : List ℕ → List ℕ → Type 0
IsListingOf input text = (m : Module) × IsModuleText input m × IsListing m text

-- ---- each command

-- the command answers the input with this output
abbrev pub Answers : Command → List ℕ → List ℕ → Type 0
Answers (ReadCommand CheckCommand) input output = (length input ≤ INPUT_LIMIT) × IsSummary input output
Answers (ReadCommand TidyCommand) input output = (length input ≤ INPUT_LIMIT) × IsTidy input output
Answers (ReadCommand CodeCommand) input output = (length input ≤ INPUT_LIMIT) × IsListingOf input output
Answers (ReadCommand PackCommand) input output = (length input ≤ INPUT_LIMIT) × IsImageOf input output
Answers (ReadCommand RunCommand) input output = (length input ≤ INPUT_LIMIT) × IsReport input output
Answers HostCommand input output = (length input ≤ INPUT_LIMIT) × IsHostReport input output
Answers (BenchCommand n) input output = IsBench n output

-- the input is one that the command answers
abbrev pub Admits : Command → List ℕ → Type 0
Admits (ReadCommand CheckCommand) input = (length input ≤ INPUT_LIMIT) × (m : Module) × IsModuleText input m
Admits (ReadCommand TidyCommand) input = (length input ≤ INPUT_LIMIT) × (m : Module) × IsModuleText input m
Admits (ReadCommand CodeCommand) input = (length input ≤ INPUT_LIMIT) × (m : Module) × IsModuleText input m
Admits (ReadCommand PackCommand) input = (length input ≤ INPUT_LIMIT) × (m : Module) × IsModuleText input m
Admits (ReadCommand RunCommand) input = (length input ≤ INPUT_LIMIT) × (m : Module) × (job : RunJob) × IsRunInput input m job
Admits HostCommand input = (length input ≤ INPUT_LIMIT) × (m : Module) × (job : HostJob) × IsHostInput input m job × RingsAreRead job.rings
Admits (BenchCommand n) input = AdmitsBench n

-- the command refuses the input for this reason, the first in the order in which an input is looked at
abbrev pub Refuses : Command → List ℕ → Refusal → Type 0
Refuses (BenchCommand n) input refusal = RefusesBench n refusal
Refuses command input TooLong = INPUT_LIMIT < length input
Refuses (ReadCommand CheckCommand) input refusal = (length input ≤ INPUT_LIMIT) × RefusesCheck input refusal
Refuses (ReadCommand TidyCommand) input refusal = (length input ≤ INPUT_LIMIT) × RefusesCheck input refusal
Refuses (ReadCommand CodeCommand) input refusal = (length input ≤ INPUT_LIMIT) × RefusesCheck input refusal
Refuses (ReadCommand PackCommand) input refusal = (length input ≤ INPUT_LIMIT) × RefusesCheck input refusal
Refuses (ReadCommand RunCommand) input refusal = (length input ≤ INPUT_LIMIT) × RefusesRun input refusal
Refuses HostCommand input refusal = (length input ≤ INPUT_LIMIT) × RefusesServing input refusal
