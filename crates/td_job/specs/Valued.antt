-- A job up to its value, which is written; of use below the reader of jobs alone.
use Rattle.std.specs.Prelude.{◌≡◌, ◌≤◌, ℕ, List, [], length, Some}
use Rattle.serde_json.specs.Data.{Data}
use Rattle.td_job.specs.Imports.{Module, Entry}
use Rattle.td_core.specs.Entries.{entry_definition}
use Rattle.td_write_values.specs.declared.limits.TheConstants.{MOST_WRITTEN}
use Rattle.td_write_values.specs.Datum.{Datum}
use Rattle.td_write_values.specs.Spelling.{spelling}
use Rattle.td_meaning.specs.Copies.{opened}
use Rattle.td_write_values.specs.Writing.{writing, whole}
use Rattle.td_job.specs.Values.{given_args, given_cells}
use Rattle.td_job.specs.Jobs.{BeginsWithValue}
use Rattle.td_job.specs.Written.{datum_of, write_faults}

-- a value is written, as these bytes
pub record IsWrittenAs (m : Module) (entry : Entry) (args cells : List ℕ) (v : Datum) (bytes : List ℕ) : Type 0 where
  pub faultless : write_faults (writing whole m entry args (opened m entry cells) v) ≡ []
  pub spelled : spelling m entry args (opened m entry cells) v ≡ Some bytes
  pub short : length bytes ≤ MOST_WRITTEN

-- so is that of a job, whose first fields have no fault and give these arguments and cells
pub record IsStarted (m : Module) (job value : Data) (entry : Entry) (args cells bytes : List ℕ) : Type 0 where
  pub begins : BeginsWithValue m job value entry
  pub args_are : args ≡ given_args (entry_definition m entry.number) job
  pub cells_are : cells ≡ given_cells (entry_definition m entry.number) job
  pub written : IsWrittenAs m entry args cells (datum_of value) bytes
