-- The list of values in a value is smaller than the value.
use Rattle.std.specs.Prelude.{◌≤◌, max}
use Rattle.std.proofs.Common.{arith}
use Rattle.td_write_values.specs.declared.value.ValueKind.{ValueKind}
use Rattle.td_write_values.specs.declared.value.ValueKind.TheVariants as kinds
use Rattle.td_write_values.specs.declared.value.Value.TheDeep.{deep-ValueKind}
use Rattle.td_write_values.specs.Datum.{datum_size}
use Rattle.td_write_values.specs.DatumCode.{data_of_size}
use Rattle.td_write_values.specs.DatumView.{datum_at}

pub lists_smaller : (k : ValueKind) → max (deep-ValueKind k) 0 ≤ datum_size (datum_at k)
lists_smaller (kinds.Number n) = omega arith
lists_smaller (kinds.List xs) = omega (arith, data_of_size xs)
lists_smaller (kinds.Bytes bs) = omega arith
lists_smaller kinds.Empty = omega arith
