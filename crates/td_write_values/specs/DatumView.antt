-- A value as contracts see it.
use Rattle.td_write_values.specs.declared.value.ValueKind.{ValueKind}
use Rattle.td_write_values.specs.declared.value.ValueKind.TheVariants as kinds
use Rattle.td_write_values.specs.Datum.{Datum, Number, Sequence, Bytes, Empty, data_of}

abbrev pub datum_at : ValueKind → Datum
datum_at (kinds.Number n) = Number n
datum_at (kinds.List xs) = Sequence (data_of xs)
datum_at (kinds.Bytes bs) = Bytes bs
datum_at kinds.Empty = Empty
