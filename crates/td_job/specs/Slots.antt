-- What the values of a list must fit, by what they stand for.
use Rattle.std.specs.Prelude.{List}
use Rattle.td_core.specs.Formed.{Bound, param_bounds, cell_bounds}
use Rattle.td_job.specs.declared.values.Slots.{Slots}
use Rattle.td_job.specs.declared.values.Slots.TheVariants.{Params, Cells}

abbrev pub slot_bounds : Slots → List Bound
slot_bounds (Params params) = param_bounds params.now
slot_bounds (Cells cells) = cell_bounds cells.now
