-- What holds of answers and refusals.
use Rattle.std.specs.Prelude.{◌≡◌, ◌⊎◌, ℕ, List}
use Rattle.td_cli_command.specs.declared.command.Command.{Command}
use Rattle.td_cli_command.specs.declared.command.Command.TheVariants.{Host}
use Rattle.td_cli_input.specs.declared.refusal.Refusal.{Refusal}
use Rattle.td_report.specs.Laws.{shown_loads}
use Rattle.td_cli.specs.Answers.{Answers, Admits, Refuses, IsReport}

-- the command has one answer to an input: each but `host`, whose report tells a schedule
abbrev pub HasOneAnswer : Command → Type 0
HasOneAnswer Host = ⊥
HasOneAnswer command = Unit {0}

-- such a command answers an input with at most one output; so the report of a run is one function of its input
abbrev pub OneAnswer : Type 0
OneAnswer = (command : Command) (input a b : List ℕ) → HasOneAnswer command → Answers command input a → Answers command input b → a ≡ b

-- what a command answers it admits
abbrev pub AnsweredIsAdmitted : Type 0
AnsweredIsAdmitted = (command : Command) (input output : List ℕ) → Answers command input output → Admits command input

-- what a command admits it doesn't refuse
abbrev pub NeverBoth : Type 0
NeverBoth = (command : Command) (input : List ℕ) (refusal : Refusal) → Admits command input → Refuses command input refusal → ⊥

-- each input of a command is one that the command admits, or it is refused; of `bench`, which has none, this is said of its number
abbrev pub AlwaysOne : Type 0
AlwaysOne = (command : Command) (input : List ℕ) → Admits command input ⊎ ((refusal : Refusal) × Refuses command input refusal)

-- runs of one module (as those of inputs with one module text are) whose reports are equal have equal verdicts, traces, cells
-- and copies, loads of which a report says the same, which are equal where the jobs have one layout, or none, and the same written bytes, or none
abbrev pub ReportsDetermineRuns : Type 0
ReportsDetermineRuns =
    (one other text : List ℕ) (a : IsReport one text) (b : IsReport other text) → a.m ≡ b.m →
    (a.outcome.verdict ≡ b.outcome.verdict) × (a.outcome.trace ≡ b.outcome.trace) × (a.outcome.cells ≡ b.outcome.cells)
    × (a.outcome.copies ≡ b.outcome.copies)
    × (shown_loads a.job.layout a.loads ≡ shown_loads b.job.layout b.loads) × (a.job.layout ≡ b.job.layout → a.loads ≡ b.loads)
    × (a.job.written ≡ b.job.written)
