-- What the code of a module's definitions does (own rule).
use Rattle.std.specs.Prelude.{◌≡◌, ℕ, ◌<◌, ◌^◌, List, length}
use Rattle.td_lower_means.specs.Imports.{Module, Entry, Parts}
use Rattle.td_core.specs.Entries.{entry_definition}
use Rattle.td_core.specs.Formed.{AllFit, params_at, cells_at}
use Rattle.td_core.specs.Outcome.{Behavior, Ending, Accepted, Rejected}
use Rattle.td_meaning.specs.Meaning.{meaning}
use Rattle.td_meaning.specs.Copies.{opened, IsSoundOn}
use Rattle.td_ir.specs.WellFormed.{IsCode}
use Rattle.td_ir.specs.State.{Way, Returned, Failed, Exit}
use Rattle.td_ir.specs.Entries.{Fits, opened_by}
use Rattle.td_ir.specs.Run.{run}
use Rattle.td_lower_blocks.specs.Placed.{ArePlaced}
use Rattle.td_lower_blocks.specs.Tabled.{IsTabled}
use Rattle.td_lower_blocks.specs.Laid.{IsLaid}

-- the way in which code is left where a behavior ends so
abbrev pub way_of : Ending → Way
way_of (Accepted position cells) = Returned position cells
way_of (Rejected reason position trace cells) = Failed reason position trace cells

-- code is left as the module's meaning ends (with its verdict, its frames and the cells), and looks at what is read, in the
-- same order
pub record IsMeaning (e : Exit) (behavior : Behavior) : Type 0 where
  pub way : e.way ≡ way_of behavior.ending
  pub touched : e.touched ≡ behavior.reads

-- the code of a module: the blocks of its definitions, laid out, with the tables that they name and registers enough
pub record IsCodeOf (c : Parts) (m : Module) : Type 0 where
  pub units : ℕ → ℕ
  pub code : IsCode c
  pub laid : IsLaid c units m
  pub tabled : IsTabled c m
  pub placed : ArePlaced c units m

-- it does what the module means: from each entry point, for arguments and cells that fit, on each message where every
-- expression that the meaning evaluates lies in its type's range (as in a module that passed the safety rule)
abbrev pub CodeMeans : Type 0
CodeMeans =
    (c : Parts) (m : Module) (entry : Entry) (args cells message : List ℕ) →
    IsCodeOf c m → Fits c entry args cells → length message < 2 ^ 32 → IsSoundOn m entry args cells message →
    IsMeaning (run c entry args (opened_by c entry cells) message) (meaning m entry args (opened m entry cells) message)

-- arguments and cells that fit the module's entry point fit that of its code
abbrev pub ArgumentsFit : Type 0
ArgumentsFit =
    (c : Parts) (m : Module) (entry : Entry) (args cells : List ℕ) →
    IsCodeOf c m → entry.number < length m.entries →
    AllFit (params_at (entry_definition m entry.number)) args → AllFit (cells_at (entry_definition m entry.number)) cells →
    Fits c entry args cells
