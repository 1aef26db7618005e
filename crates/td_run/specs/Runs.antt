-- What a run by code comes to, while others store to the words by a plan (own rule).
use Rattle.std.specs.Prelude.{ℕ, List, Option}
use Rattle.td_run.specs.Imports.{Entry, Outcome, Load, Stretch, PlannedStore, Parts}
use Rattle.td_stream.specs.Layouts.{layout_or_plain}
use Rattle.td_stream.specs.Loads.{buffered}
use Rattle.td_sched.specs.Plan.{ArePlanned}
use Rattle.td_run.specs.Validation.{IsValidation}

-- what a run is of: an entry point of code, with arguments and cells, and the words of the buffer in which a message of so many bytes
-- lies, by a layout or at its front, with the stores that others make to them
pub record Input : Type 0 where
  pub entry : Entry
  pub args : List ℕ
  pub cells : List ℕ
  pub length : ℕ
  pub layout : Option (List Stretch)
  pub words : List ℕ
  pub stores : List PlannedStore

-- how the message lies in the buffer
abbrev pub layout_of : Input → List Stretch
layout_of input = layout_or_plain input.length input.layout

-- the run is a validation by the code, and each load gave what its word of the buffer then held, by the plan
pub record IsRunBy (c : Parts) (input : Input) (outcome : Outcome) (loads : List Load) : Type 0 where
  pub validated : IsValidation c input.entry input.args input.cells (layout_of input) loads outcome
  pub held : ArePlanned input.words input.stores 0 (buffered input.layout loads)
