-- How bit fields lie in numbers (3D manual, "Bitfields"; own rule: little-endian bases are filled from the bit of least
-- weight, big-endian ones from the one of most).
use Rattle.std.specs.Prelude.{ℕ, ◌+◌, ◌-◌, ◌*◌, Bool, false, cond, ◌&&◌, nat_le, List, [], ◌∷◌, ◌++◌, Option, Some, None}
use Rattle.td_num.specs.Numbers.{bytes_in}
use Rattle.td_elab_rules.specs.Imports.{NumberType, ByteOrder, LittleEndian, BigEndian, Element, Once, Bits, Part, Field}
use Rattle.td_core.specs.declared.module.Element.TheVariants as element
use Rattle.td_elab_rules.specs.declared.fields.FlatField.{FlatField}
use Rattle.td_elab_rules.specs.declared.fields.UnitRoom.{UnitRoom}
use Rattle.td_elab_rules.specs.declared.fields.OpenUnit.{OpenUnit}
use Rattle.td_elab_rules.specs.Types.{same_number}

-- Bit fields in a row with the same base share a number while their bits fit

abbrev pub fits_room : Option UnitRoom → NumberType → ℕ → Bool
fits_room None t w = false
fits_room (Some u) t w = same_number u.base t && nat_le (u.filled + w) (8 * bytes_in t.width)

abbrev pub new_room : NumberType → ℕ → UnitRoom
new_room t w = record { base = t; filled = w }

abbrev pub more_room : UnitRoom → ℕ → UnitRoom
more_room u w = record { base = u.base; filled = u.filled + w }

-- the bits of the next field
abbrev pub low_bit : ByteOrder → ℕ → ℕ → ℕ → ℕ
low_bit LittleEndian size filled w = filled
low_bit BigEndian size filled w = size - filled - w

abbrev pub unit_bits : NumberType → ℕ → ℕ → Bits
unit_bits t filled w = record { low = low_bit t.order (8 * bytes_in t.width) filled w; width = w }

-- Fields

abbrev pub part_of : Option Bits → FlatField → Part
part_of b x = record { name = x.name; bits = b; refinement = x.refinement; action = x.action }

-- a field that is none of bits
abbrev pub whole_field : FlatField → Field
whole_field x = record { element = x.element; extent = x.extent; copy = x.copy; parts = part_of None x ∷ []; place = x.place }

abbrev pub unit_field : OpenUnit → Field
unit_field u = record { element = element.Number u.room.base; extent = Once; copy = None; parts = u.parts; place = u.place }

abbrev pub new_unit : NumberType → ℕ → FlatField → OpenUnit
new_unit t w x = record { room = new_room t w; parts = part_of (Some (unit_bits t 0 w)) x ∷ []; place = x.place }

abbrev pub more_bits : OpenUnit → ℕ → FlatField → OpenUnit
more_bits u w x = record {
  room = more_room u.room w;
  parts = u.parts ++ part_of (Some (unit_bits u.room.base u.room.filled w)) x ∷ [];
  place = u.place;
}

abbrev pub room_of : Option OpenUnit → Option UnitRoom
room_of None = None
room_of (Some u) = Some u.room

abbrev pub grown : Option OpenUnit → NumberType → ℕ → FlatField → OpenUnit
grown None t w x = new_unit t w x
grown (Some u) t w x = more_bits u w x

abbrev pub closed : Option OpenUnit → List Field
closed None = []
closed (Some u) = unit_field u ∷ []

-- the base and width of a bit field
abbrev pub bit_field : Element → Option ℕ → Option (NumberType × ℕ)
bit_field (element.Number t) (Some w) = Some (t, w)
bit_field (element.Number t) None = None
bit_field (element.Listed t v) w = None
bit_field (element.Named j es cells) w = None
bit_field element.Unit w = None
bit_field element.Rest w = None
bit_field element.Zeros w = None

-- the fields, after those of an open unit
abbrev pub gathered : Option OpenUnit → List FlatField → List Field
gathered o [] = closed o
gathered o (x ∷ xs) = elim (bit_field x.element x.width) [
  | None ↦ closed o ++ whole_field x ∷ gathered None xs
  | Some (t, w) ↦
      cond (fits_room (room_of o) t w) (gathered (Some (grown o t w x)) xs) (closed o ++ gathered (Some (new_unit t w x)) xs)
]
