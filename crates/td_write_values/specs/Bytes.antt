-- The bytes of a number, and which numbers fit (3D manual, "Base types"; own rule for bits).
use Rattle.std.specs.Prelude.{ℕ, zero, suc, ◌+◌, ◌*◌, ◌/◌, ◌%◌, ◌^◌, Bool, true, false, ◌&&◌, nat_eq, nat_le, List, [], ◌∷◌, Option, Some, None}
use Rattle.td_num.specs.Numbers.{bytes_in, byte_of}
use Rattle.td_write_values.specs.Imports.{ByteOrder, LittleEndian, BigEndian, NumberType, Element, Extent, Once, Part}
use Rattle.td_core.specs.declared.module.Element.TheVariants as element
use Rattle.td_core.specs.declared.module.Bits.{Bits}
use Rattle.td_core.specs.Types.{is_octet}
use Rattle.td_core.specs.Formed.{bits_bound}
use Rattle.td_meaning.specs.Meaning.{bits_of}

-- the w bytes of a number, the one of least weight first
abbrev pub rising_bytes : ℕ → ℕ → List ℕ
rising_bytes zero n = []
rising_bytes (suc w) n = n % 256 ∷ rising_bytes w (n / 256)

-- the same, the one of least weight last
abbrev pub falling_bytes : ℕ → ℕ → List ℕ
falling_bytes zero n = []
falling_bytes (suc w) n = byte_of n w ∷ falling_bytes w n

abbrev pub ordered_bytes : ByteOrder → ℕ → ℕ → List ℕ
ordered_bytes LittleEndian w n = rising_bytes w n
ordered_bytes BigEndian w n = falling_bytes w n

abbrev pub number_bytes : NumberType → ℕ → List ℕ
number_bytes t n = ordered_bytes t.order (bytes_in t.width) n

-- a number fits its type, or its bits
abbrev pub fits : NumberType → Option Bits → ℕ → Bool
fits t bits n = nat_le n (bits_bound t.width bits).most

abbrev pub is_byte : Element → Bool
is_byte (element.Number t) = is_octet t.width t.order
is_byte element = false

-- Units of bit fields

-- the type of a number, or of a unit, that stands once
abbrev pub unit_type : Element → Extent → Option NumberType
unit_type (element.Number t) Once = Some t
unit_type element extent = None

-- a bit field's value at its bits
abbrev pub at_bits : Option Bits → ℕ → ℕ
at_bits None n = n
at_bits (Some bits) n = n * 2 ^ bits.low

-- the number of these values at their bits, all other bits 0
abbrev pub unit_number : List Part → List ℕ → ℕ
unit_number [] ns = 0
unit_number (part ∷ parts) [] = 0
unit_number (part ∷ parts) (n ∷ ns) = at_bits part.bits n + unit_number parts ns

-- each part of the number has its value
abbrev pub are_bits_of : ℕ → List Part → List ℕ → Bool
are_bits_of n [] ns = true
are_bits_of n (part ∷ parts) [] = false
are_bits_of n (part ∷ parts) (v ∷ vs) = nat_eq (bits_of part.bits n) v && are_bits_of n parts vs

-- In a module of a text the bit fields of a unit don't overlap, and this holds of all values in range.
abbrev pub makes_unit : NumberType → List Part → List ℕ → Bool
makes_unit t parts ns = fits t None (unit_number parts ns) && are_bits_of (unit_number parts ns) parts ns
