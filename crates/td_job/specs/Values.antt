-- The arguments and cells of a job (own rule).
--
-- `args` is a list (J2) of as many values as the entry point has value parameters (J4), `cells` of as many as it has
-- cells (J4). Each value is a whole number (J2) that fits (J4): in the type of the parameter or cell, and for a pointer's
-- cell in 32 bits. Where there are no parameters `args` may be left out, and `cells` always; cells that are left out are
-- zeros.
use Rattle.std.specs.Prelude.{ℕ, ◌+◌, List, [], ◌∷◌, ◌++◌, length, replicate, not, nat_eq, nat_lt, Option, Some, None}
use Rattle.serde_json.specs.Data.{Data, Items, no_items, item}
use Rattle.serde_json.specs.Events.{items_len}
use Rattle.serde_json.specs.Find.{as_array}
use Rattle.td_job.specs.Imports.{TypeDef}
use Rattle.td_core.specs.Formed.{Bound, params_at, cells_at}
use Rattle.td_job.specs.declared.error.Key.{Key}
use Rattle.td_job.specs.declared.error.Key.TheVariants as key
use Rattle.td_job.specs.declared.error.JobRule.TheVariants as rule
use Rattle.td_job.specs.declared.error.Path.{Path}
use Rattle.td_job.specs.declared.error.Path.TheVariants as path
use Rattle.td_job.specs.declared.error.JobError.{JobError}
use Rattle.td_job.specs.declared.error.JobError.TheVariants.{Fault}
use Rattle.td_job.specs.Fields.{field_of, whole, fault_if}

-- the greatest value that fits is known
abbrev pub value_faults : Path → ℕ → Option ℕ → List JobError
value_faults place most None = Fault rule.Form place ∷ []
value_faults place most (Some n) = fault_if (nat_lt most n) (Fault rule.Values place)

abbrev pub each_value_faults : Key → ℕ → List Bound → Items → List JobError
each_value_faults k i [] values = []
each_value_faults k i (bound ∷ bounds) no_items = []
each_value_faults k i (bound ∷ bounds) (item value values) =
    value_faults (path.Element k i) bound.most (whole value) ++ each_value_faults k (i + 1) bounds values

abbrev pub list_faults : Key → List Bound → Option Items → List JobError
list_faults k bounds None = Fault rule.Form (path.Whole k) ∷ []
list_faults k bounds (Some values) =
    fault_if (not (nat_eq (items_len values) (length bounds))) (Fault rule.Values (path.Whole k)) ++ each_value_faults k 0 bounds values

-- arguments that are left out are wanted where there are parameters
abbrev pub wanted_args : List Bound → List JobError
wanted_args [] = []
wanted_args (bound ∷ bounds) = Fault rule.Form (path.Whole key.Args) ∷ []

abbrev pub args_faults : List Bound → Option Data → List JobError
args_faults bounds None = wanted_args bounds
args_faults bounds (Some value) = list_faults key.Args bounds (as_array value)

abbrev pub cells_faults : List Bound → Option Data → List JobError
cells_faults bounds None = []
cells_faults bounds (Some value) = list_faults key.Cells bounds (as_array value)

-- the numbers of a list (what has another form counts as 0)
abbrev pub or_zero : Option ℕ → ℕ
or_zero None = 0
or_zero (Some n) = n

abbrev pub each_number : Items → List ℕ
each_number no_items = []
each_number (item value values) = or_zero (whole value) ∷ each_number values

abbrev pub listed_numbers : Option Items → List ℕ
listed_numbers None = []
listed_numbers (Some values) = each_number values

-- the values that a job gives; zeros where the list is left out
abbrev pub given_values : List Bound → Option Data → List ℕ
given_values bounds None = replicate (length bounds) 0
given_values bounds (Some value) = listed_numbers (as_array value)

abbrev pub given_args : Option TypeDef → Data → List ℕ
given_args d job = given_values (params_at d) (field_of key.Args job)

abbrev pub given_cells : Option TypeDef → Data → List ℕ
given_cells d job = given_values (cells_at d) (field_of key.Cells job)
