-- The module of DESCRIPTOR of formats/vring_desc, by hand: its names numbered as they are seen first, no places in a text, and without TABLE.
use Rattle.std.specs.Prelude.{ℕ, List, [], ◌∷◌, Option, Some, None, codes}
use Rattle.td_ast.specs.declared.token.Span.{Span}
use Rattle.td_core.specs.declared.expressions.Binary.TheVariants.{Remainder, Subtract}
use Rattle.td_core.specs.declared.expressions.Relation.TheVariants.{Equal, GreaterEqual, Less, LessEqual}
use Rattle.td_core.specs.declared.expressions.Scalar.TheVariants as scalars
use Rattle.td_core.specs.declared.module.Body.TheVariants.{Struct}
use Rattle.td_core.specs.declared.module.Cell.{Cell}
use Rattle.td_core.specs.declared.module.CellKind.TheVariants as kinds
use Rattle.td_core.specs.declared.module.Element.TheVariants.{Number}
use Rattle.td_core.specs.declared.module.Entry.{Entry}
use Rattle.td_core.specs.declared.module.Extent.TheVariants.{Once}
use Rattle.td_core.specs.declared.module.Field.{Field}
use Rattle.td_core.specs.declared.module.Module.{Module}
use Rattle.td_core.specs.declared.module.NameId.{NameId}
use Rattle.td_core.specs.declared.module.Part.{Part}
use Rattle.td_core.specs.declared.module.TypeDef.{TypeDef}
use Rattle.td_core.specs.Term.{Term, number, name, compute, compare, both, either, Deed, done, set, fork}
use Rattle.td_num.specs.declared.number.ByteOrder.TheVariants.{LittleEndian}
use Rattle.td_num.specs.declared.number.NumberType.{NumberType}
use Rattle.td_num.specs.declared.number.Width.{Width}
use Rattle.td_num.specs.declared.number.Width.TheVariants.{One, Two, Four, Eight}

abbrev pub id : ℕ → NameId
id n = record { number = n }

abbrev pub nowhere : Span
nowhere = record { from = 0; to = 0 }

abbrev pub little : Width → NumberType
little w = record { width = w; order = LittleEndian }

-- ---- values in scope, by their levels
abbrev pub entries_name : Term
entries_name = name 0 scalars.ThirtyTwo 4294967295

abbrev pub memory_name : Term
memory_name = name 1 scalars.SixtyFour 18446744073709551615

abbrev pub indirect_name : Term
indirect_name = name 2 scalars.Eight 255

abbrev pub address_name : Term
address_name = name 3 scalars.SixtyFour 18446744073709551615

abbrev pub length_name : Term
length_name = name 4 scalars.ThirtyTwo 4294967295

abbrev pub has_next_name : Term
has_next_name = name 5 scalars.Sixteen 1

abbrev pub writes_name : Term
writes_name = name 6 scalars.Sixteen 1

abbrev pub is_indirect_name : Term
is_indirect_name = name 7 scalars.Sixteen 1

abbrev pub next_name : Term
next_name = name 9 scalars.Sixteen 65535

-- ---- tests
-- address <= memory
abbrev pub address_test : Term
address_test = compare LessEqual address_name memory_name

-- length <= memory && address <= memory - length
abbrev pub length_test : Term
length_test = both (compare LessEqual length_name memory_name) (compare LessEqual address_name (compute Subtract nowhere memory_name length_name))

-- isIndirect == 0 || indirect == 1 && hasNext == 0 && length >= 16 && length % 16 == 0
abbrev pub indirect_test : Term
indirect_test =
    either (compare Equal is_indirect_name (number 0 scalars.Sixteen))
    (both (both (both (compare Equal indirect_name (number 1 scalars.Eight)) (compare Equal has_next_name (number 0 scalars.Sixteen)))
    (compare GreaterEqual length_name (number 16 scalars.ThirtyTwo)))
    (compare Equal (compute Remainder nowhere length_name (number 16 scalars.ThirtyTwo)) (number 0 scalars.ThirtyTwo)))

-- hasNext == 0 || next < entries
abbrev pub next_test : Term
next_test = either (compare Equal has_next_name (number 0 scalars.Sixteen)) (compare Less next_name entries_name)

-- ---- parts of numbers
-- a cell gets a value
abbrev pub delivers : ℕ → Term → Option Deed
delivers cell e = Some (set cell e done)

-- if (hasNext == 1) { r->Next = next; } else { r->Next = 0; }
abbrev pub next_deed : Deed
next_deed = fork (compare Equal has_next_name (number 1 scalars.Sixteen)) (set 5 next_name done) (set 5 (number 0 scalars.Sixteen) done) done

abbrev pub whole_part : ℕ → Option Term → Option Deed → Part
whole_part n refinement action = record { name = id n; bits = None; refinement = refinement; action = action }

abbrev pub bits_part : ℕ → ℕ → ℕ → Option Term → Option Deed → Part
bits_part n low width refinement action = record { name = id n; bits = Some (record { low = low; width = width }); refinement = refinement; action = action }

abbrev pub number_field : Width → List Part → Field
number_field w parts = record { element = Number (little w); extent = Once; copy = None; parts = parts; place = nowhere }

-- UINT64 address { address <= memory } {:act r->Address = address;};
abbrev pub address_part : Part
address_part = whole_part 10 (Some address_test) (delivers 0 address_name)

-- UINT32 length { .. } {:act r->Length = length;};
abbrev pub length_part : Part
length_part = whole_part 11 (Some length_test) (delivers 1 length_name)

-- UINT16 hasNext : 1, deviceWrites : 1, isIndirect : 1 { .. }, each delivered, and 13 other bits
abbrev pub has_next_part : Part
has_next_part = bits_part 12 0 1 None (delivers 2 has_next_name)

abbrev pub writes_part : Part
writes_part = bits_part 13 1 1 None (delivers 3 writes_name)

abbrev pub is_indirect_part : Part
is_indirect_part = bits_part 14 2 1 (Some indirect_test) (delivers 4 is_indirect_name)

abbrev pub other_part : Part
other_part = bits_part 15 3 13 None None

-- UINT16 next { .. } {:act ..};
abbrev pub next_part : Part
next_part = whole_part 16 (Some next_test) (Some next_deed)

abbrev pub address_field : Field
address_field = number_field Eight (address_part ∷ [])

abbrev pub length_field : Field
length_field = number_field Four (length_part ∷ [])

abbrev pub flags_field : Field
flags_field = number_field Two (has_next_part ∷ writes_part ∷ is_indirect_part ∷ other_part ∷ [])

abbrev pub next_field : Field
next_field = number_field Two (next_part ∷ [])

-- ---- the module
abbrev pub out_cell : ℕ → Width → Cell
out_cell n w = record { name = id 3; field = Some (id n); kind = kinds.Number w }

abbrev pub descriptor_definition : TypeDef
descriptor_definition = record {
  name = id 17;
  params = record { name = id 0; width = Four } ∷ record { name = id 1; width = Eight } ∷ record { name = id 2; width = One } ∷ [];
  cells = out_cell 4 Eight ∷ out_cell 5 Four ∷ out_cell 6 Two ∷ out_cell 7 Two ∷ out_cell 8 Two ∷ out_cell 9 Two ∷ [];
  buffers = [];
  guard = None;
  body = Struct (address_field ∷ length_field ∷ flags_field ∷ next_field ∷ []);
}

abbrev pub descriptor_module : Module
descriptor_module = record {
  written = 2;
  names = codes "entries" ∷ codes "memory" ∷ codes "indirect" ∷ codes "r" ∷ codes "Address" ∷ codes "Length" ∷ codes "HasNext" ∷ codes "DeviceWrites"
      ∷ codes "IsIndirect" ∷ codes "Next" ∷ codes "address" ∷ codes "length" ∷ codes "hasNext" ∷ codes "deviceWrites" ∷ codes "isIndirect"
      ∷ codes "otherFlags" ∷ codes "next" ∷ codes "DESCRIPTOR" ∷ [];
  listed = [];
  definitions = descriptor_definition ∷ [];
  entries = 0 ∷ [];
}

abbrev pub descriptor_entry : Entry
descriptor_entry = record { number = 0 }

-- how many entries the table has, how many bytes the guest's memory has, and whether the descriptor may refer to a table
abbrev pub descriptor_args : ℕ → ℕ → ℕ → List ℕ
descriptor_args entries memory indirect = entries ∷ memory ∷ indirect ∷ []

abbrev pub no_cells : List ℕ
no_cells = 0 ∷ 0 ∷ 0 ∷ 0 ∷ 0 ∷ 0 ∷ []
