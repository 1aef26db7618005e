-- A bit field is no wider than its base.
use Rattle.std.specs.Prelude.{ℕ, ◌*◌, ◌≤◌, Option, Some, None}
use Rattle.td_num.specs.Numbers.{bytes_in}
use Rattle.td_num.specs.declared.number.NumberType.{NumberType}
use Rattle.td_elab_rules.specs.declared.fields.FlatField.{FlatField}
use Rattle.td_elab_rules.specs.BitFields.{bit_field}

abbrev pub IsWithin : Option (NumberType × ℕ) → Type 0
IsWithin None = Unit {0}
IsWithin (Some (t, w)) = w ≤ 8 * bytes_in t.width

abbrev pub IsNarrow : FlatField → Type 0
IsNarrow f = IsWithin (bit_field f.element f.width)
