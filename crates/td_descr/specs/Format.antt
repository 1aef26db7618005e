-- The module of descriptors, by hand: RING's text, its names numbered as they are seen first, and no places in a text.
use Rattle.std.specs.Prelude.{ℕ, [], ◌∷◌, Option, Some, None, codes}
use Rattle.td_descr.specs.Imports.{Width, Two, Four, LittleEndian, Equal, LessEqual, Subtract, NameId, Once, Number as NumberCell, Cell, Field, Struct, TypeDef, Module, Span}
use Rattle.td_core.specs.declared.expressions.Scalar.TheVariants.{Sixteen, ThirtyTwo}
use Rattle.td_core.specs.Term.{Term, number, name, compare, compute, both, Deed, done, set}
use Rattle.td_core.specs.declared.module.Element.TheVariants.{Number}

abbrev pub id : ℕ → NameId
id n = record { number = n }

abbrev pub nowhere : Span
nowhere = record { from = 0; to = 0 }

-- a field of a little-endian number, with one part
abbrev pub any_field : Width → NameId → Span → Option Term → Option Deed → Field
any_field w n place refinement action = record {
  element = Number (record { width = w; order = LittleEndian });
  extent = Once;
  copy = None;
  parts = record { name = n; bits = None; refinement = refinement; action = action } ∷ [];
  place = place;
}

abbrev pub number_field : Width → ℕ → Option Term → Option Deed → Field
number_field w n refinement action = any_field w (id n) nowhere refinement action

abbrev pub room_name : Term
room_name = name 0 ThirtyTwo 4294967295

abbrev pub most_name : Term
most_name = name 1 ThirtyTwo 4294967295

abbrev pub place_name : Term
place_name = name 2 ThirtyTwo 4294967295

abbrev pub size_name : Term
size_name = name 3 ThirtyTwo 4294967295

abbrev pub place_test : Option Term
place_test = Some (compare LessEqual place_name room_name)

abbrev pub size_test : Option Term
size_test = Some (both (compare LessEqual size_name (compute Subtract nowhere room_name place_name)) (compare LessEqual size_name most_name))

abbrev pub flags_test : Option Term
flags_test = Some (compare Equal (name 5 Sixteen 65535) (number 0 Sixteen))

-- a cell is given a value
abbrev pub delivers : ℕ → Term → Option Deed
delivers cell e = Some (set cell e done)

-- UINT32 place { place <= room } {:act r->Place = place;};
abbrev pub place_field : Field
place_field = number_field Four 6 place_test (delivers 0 place_name)

-- UINT32 size { size <= room - place && size <= most } {:act r->Size = size;};
abbrev pub size_field : Field
size_field = number_field Four 7 size_test (delivers 1 size_name)

-- UINT16 id {:act r->Id = id;};
abbrev pub id_field : Field
id_field = number_field Two 8 None (delivers 2 (name 4 Sixteen 65535))

-- UINT16 flags { flags == 0 };
abbrev pub flags_field : Field
flags_field = number_field Two 9 flags_test None

-- UINT32 reserved;
abbrev pub reserved_field : Field
reserved_field = number_field Four 10 None None

abbrev pub out_cell : ℕ → Width → Cell
out_cell n w = record { name = id 2; field = Some (id n); kind = NumberCell w }

abbrev pub desc_definition : TypeDef
desc_definition = record {
  name = id 11;
  params = record { name = id 0; width = Four } ∷ record { name = id 1; width = Four } ∷ [];
  cells = out_cell 3 Four ∷ out_cell 4 Four ∷ out_cell 5 Two ∷ [];
  buffers = [];
  guard = None;
  body = Struct (place_field ∷ size_field ∷ id_field ∷ flags_field ∷ reserved_field ∷ []);
}

abbrev pub ring_module : Module
ring_module = record {
  written = 2;
  names = codes "room" ∷ codes "most" ∷ codes "r" ∷ codes "Place" ∷ codes "Size" ∷ codes "Id" ∷ codes "place" ∷ codes "size" ∷ codes "id" ∷ codes "flags" ∷ codes "reserved" ∷ codes "DESC" ∷ [];
  listed = [];
  definitions = desc_definition ∷ [];
  entries = 0 ∷ [];
}
