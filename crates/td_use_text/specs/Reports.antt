-- What is written of a message (own rule).
use Rattle.std.specs.Prelude.{◌≡◌, ℕ, ◌<◌, List, [], Option, Some, None, length}
use Rattle.std.specs.List.{All}
use Rattle.td_core.specs.declared.module.Module.{Module}
use Rattle.td_core.specs.declared.module.Entry.{Entry}
use Rattle.td_core.specs.declared.module.TypeDef.{TypeDef}
use Rattle.td_core.specs.declared.outcome.Outcome.{Outcome}
use Rattle.td_core.specs.Entries.{entry_definition}
use Rattle.td_core.specs.Formed.{AllFit, params_at, cells_at}
use Rattle.td_stream.specs.declared.load.Load.{Load}
use Rattle.td_stream.specs.Layouts.{plain}
use Rattle.td_stream.specs.Loads.{Carries, IsRising}
use Rattle.td_fetch.specs.Outcomes.{IsMeant}
use Rattle.td_io.specs.States.{SinkState, Takes, WriteFails}
use Rattle.td_report.specs.Report.{report}

-- from this entry point a validation begins with these cells and without arguments
pub record Begins (m : Module) (entry : Entry) (cells : List ℕ) : Type 0 where
  pub no_arguments : AllFit (params_at (entry_definition m entry.number)) []
  pub cells_fit : AllFit (cells_at (entry_definition m entry.number)) cells

-- from this entry point none begins without arguments: it has no definition, or one with parameters
abbrev pub takes_arguments : Option TypeDef → Type 0
takes_arguments None = Unit {0}
takes_arguments (Some d) = 0 < length d.params

abbrev pub TakesArguments : Module → Entry → Type 0
TakesArguments m entry = takes_arguments (entry_definition m entry.number)

-- one begins with these cells, which are zeros
abbrev pub BeginsAtZeros : Module → Entry → List ℕ → Type 0
BeginsAtZeros m entry cells = Begins m entry cells × All (λ v. v ≡ 0) cells

-- What was loaded are words of the message as it stands, by rising number, so none twice; the outcome is that of the module's meaning on
-- the message, and exactly the words with a byte in its reads were loaded.
pub record IsRunOf (m : Module) (entry : Entry) (cells message : List ℕ) (loads : List Load) (outcome : Outcome) : Type 0 where
  pub rising : IsRising loads
  pub carried : Carries (plain (length message)) message loads
  pub meant : IsMeant (plain (length message)) m entry [] cells message loads outcome

-- a report of such a run was written, and no write of it failed
pub record Reports (m : Module) (entry : Entry) (cells message : List ℕ) (old new : SinkState) : Type 0 where
  pub outcome : Outcome
  pub loads : List Load
  pub run : IsRunOf m entry cells message loads outcome
  pub taken : Takes old new (report outcome m entry loads None None)

-- a prefix of a report of such a run was written, and then a write failed
pub record FailsToReport (m : Module) (entry : Entry) (cells message : List ℕ) (old new : SinkState) : Type 0 where
  pub outcome : Outcome
  pub loads : List Load
  pub run : IsRunOf m entry cells message loads outcome
  pub failed : WriteFails old new (report outcome m entry loads None None)
