-- What a validation by code says of the message (own rule).
use Rattle.std.specs.Prelude.{◌≡◌, ℕ, ◌-◌, ◌^◌, List, length, min}
use Rattle.td_core.specs.declared.module.Entry.{Entry}
use Rattle.td_core.specs.declared.outcome.Outcome.{Outcome}
use Rattle.td_stream.specs.declared.load.Load.{Load}
use Rattle.td_stream.specs.declared.stretch.Stretch.{Stretch}
use Rattle.td_stream.specs.Loads.{Carries}
use Rattle.td_ir.specs.declared.tables.Parts.{Parts}
use Rattle.td_ir.specs.Entries.{opened_by}
use Rattle.td_ir.specs.Run.{run}
use Rattle.td_run.specs.Validation.{IsValidation}

-- a validation from an entry point on, with these arguments and cells, of a message that lies so: it made these loads, had this outcome, and told so
-- many steps
pub record IsValidated (c : Parts) (entry : Entry) (args cells : List ℕ) (layout : List Stretch) (loads : List Load) (outcome : Outcome) (told : ℕ) : Type 0 where
  pub validated : IsValidation c entry args cells layout loads outcome
  -- the steps told are the run's, or 2^64 - 1 where these are more
  pub steps : (b : List ℕ) → Carries layout b loads → told ≡ min (run c entry args (opened_by c entry cells) b).steps (2 ^ 64 - 1)
  -- the entry point has as many cells as before
  pub count : length outcome.cells ≡ length cells
