-- When a module has the shape of that of descriptors (own rule): its one definition and entry point are those of `RING`, names and
-- places in the text aside. Values in scope are named by their levels: 0 room, 1 most, 2 place, 3 size, 4 id, 5 flags.
use Rattle.std.specs.Prelude.{◌≡◌, ℕ, ◌<◌, ◌^◌, ◌&&◌, nat_eq, Bool, true, false, List, [], ◌∷◌, Option, Some, None}
use Rattle.td_num.specs.Lists.{AreBytes}
use Rattle.td_descr.specs.Imports.{Width, Two, Four, ByteOrder, LittleEndian, Equal, LessEqual, Subtract, Element, Extent, Once, Bits, Buffer, CopyOut, Part, Field, Param, Cell, Number as NumberCell, Pointer, Body, Struct, TypeDef, Module}
use Rattle.td_core.specs.Term.{Term, number, name, compare, compute, both, Deed, done, set}
use Rattle.td_core.specs.declared.module.Element.TheVariants.{Number}
use Rattle.td_core.specs.declared.module.CellKind.{CellKind}
use Rattle.td_core.specs.Entries.{entry_definition}
use Rattle.td_core.specs.Formed.{AllFit, params_at, cells_at}
use Rattle.td_meaning.specs.Meaning.{meaning}
use Rattle.td_meaning.specs.Copies.{buffers_at}
use Rattle.td_meaning.specs.Throughout.{OnEnding}
use Rattle.td_descr.specs.Ring.{desc_entry, desc_args, desc_cells, CellsAreWithin}

-- ---- expressions
abbrev pub is_level : ℕ → Term → Bool
is_level level (name i scalar most) = nat_eq i level
is_level level e = false

abbrev pub is_zero : Term → Bool
is_zero (number n scalar) = nat_eq n 0
is_zero e = false

-- room - place
abbrev pub is_rest : Term → Bool
is_rest (compute Subtract span a b) = is_level 0 a && is_level 2 b
is_rest e = false

-- size <= room - place
abbrev pub is_left : Term → Bool
is_left (compare LessEqual a b) = is_level 3 a && is_rest b
is_left e = false

-- the one is at most the other, of two values in scope
abbrev pub is_up_to : ℕ → ℕ → Term → Bool
is_up_to one other (compare LessEqual a b) = is_level one a && is_level other b
is_up_to one other e = false

-- flags == 0
abbrev pub is_none : Term → Bool
is_none (compare Equal a b) = is_level 5 a && is_zero b
is_none e = false

-- size <= room - place && size <= most
abbrev pub is_fit : Term → Bool
is_fit (both a b) = is_left a && is_up_to 3 1 b
is_fit e = false

-- ---- refinements and actions
abbrev pub tested : (Term → Bool) → Option Term → Bool
tested is None = false
tested is (Some e) = is e

abbrev pub untested : Option Term → Bool
untested None = true
untested (Some e) = false

abbrev pub is_done : Deed → Bool
is_done done = true
is_done d = false

-- the cell gets the value, and no more is done
abbrev pub is_delivery : ℕ → ℕ → Deed → Bool
is_delivery cell level (set c e then) = nat_eq c cell && (is_level level e && is_done then)
is_delivery cell level d = false

abbrev pub delivered : ℕ → ℕ → Option Deed → Bool
delivered cell level None = false
delivered cell level (Some d) = is_delivery cell level d

abbrev pub undone : Option Deed → Bool
undone None = true
undone (Some d) = false

-- ---- fields
abbrev pub is_four : Width → Bool
is_four Four = true
is_four w = false

abbrev pub is_two : Width → Bool
is_two Two = true
is_two w = false

abbrev pub is_little : ByteOrder → Bool
is_little LittleEndian = true
is_little o = false

-- a little-endian number of such a width
abbrev pub holds : (Width → Bool) → Element → Extent → Bool
holds is (Number type) Once = is type.width && is_little type.order
holds is element extent = false

abbrev pub whole : Option Bits → Bool
whole None = true
whole (Some bits) = false

-- a number's one part
abbrev pub alone : (Part → Bool) → List Part → Bool
alone is (part ∷ []) = whole part.bits && is part
alone is parts = false

-- nothing is copied
abbrev pub kept : Option CopyOut → Bool
kept None = true
kept (Some copy) = false

abbrev pub is_number : (Width → Bool) → (Part → Bool) → Field → Bool
is_number width is f = (holds width f.element f.extent && kept f.copy) && alone is f.parts

abbrev pub is_place : Part → Bool
is_place p = tested (is_up_to 2 0) p.refinement && delivered 0 2 p.action

abbrev pub is_size : Part → Bool
is_size p = tested is_fit p.refinement && delivered 1 3 p.action

abbrev pub is_id : Part → Bool
is_id p = untested p.refinement && delivered 2 4 p.action

abbrev pub is_flags : Part → Bool
is_flags p = tested is_none p.refinement && undone p.action

abbrev pub is_reserved : Part → Bool
is_reserved p = untested p.refinement && undone p.action

abbrev pub are_fields : List Field → Bool
are_fields (place ∷ size ∷ id ∷ flags ∷ reserved ∷ []) =
    is_number is_four is_place place && (is_number is_four is_size size && (is_number is_two is_id id && (is_number is_two is_flags flags && is_number is_four is_reserved reserved)))
are_fields fields = false

-- ---- the module
abbrev pub is_struct : Body → Bool
is_struct (Struct fields) = are_fields fields
is_struct body = false

-- the room and the greatest size
abbrev pub are_params : List Param → Bool
are_params (room ∷ most ∷ []) = is_four room.width && is_four most.width
are_params params = false

abbrev pub is_cell : (Width → Bool) → CellKind → Bool
is_cell is (NumberCell width) = is width
is_cell is Pointer = false

-- the record of place, size and number
abbrev pub are_cells : List Cell → Bool
are_cells (place ∷ size ∷ id ∷ []) = is_cell is_four place.kind && (is_cell is_four size.kind && is_cell is_two id.kind)
are_cells cells = false

abbrev pub are_no_buffers : List Buffer → Bool
are_no_buffers [] = true
are_no_buffers (b ∷ buffers) = false

abbrev pub is_definition : TypeDef → Bool
is_definition d = (untested d.guard && is_struct d.body) && (are_params d.params && (are_cells d.cells && are_no_buffers d.buffers))

abbrev pub is_only : List TypeDef → Bool
is_only (d ∷ []) = is_definition d
is_only definitions = false

abbrev pub is_first : List ℕ → Bool
is_first (e ∷ entries) = nat_eq e 0
is_first entries = false

abbrev pub has_ring_shape : Module → Bool
has_ring_shape m = is_first m.entries && is_only m.definitions

-- what a module accepts as a descriptor lies within the room
abbrev pub AcceptsWithin : Module → Type 0
AcceptsWithin m = (room most : ℕ) (b : List ℕ) → AreBytes b → OnEnding (meaning m desc_entry (desc_args room most) desc_cells b).ending (λ q cells. CellsAreWithin room most cells)

-- a module of such a shape does
abbrev pub ShapeAcceptsWithin : Type 0
ShapeAcceptsWithin = (m : Module) → has_ring_shape m ≡ true → AcceptsWithin m

-- and whatever the room and the greatest size, they fit its entry point, and so do cells of zeros
abbrev pub ShapeFits : Type 0
ShapeFits =
    (m : Module) → has_ring_shape m ≡ true → (room most : ℕ) → room < 2 ^ 32 → most < 2 ^ 32 →
    AllFit (params_at (entry_definition m desc_entry.number)) (desc_args room most) × AllFit (cells_at (entry_definition m desc_entry.number)) desc_cells

-- which has no copy buffers
abbrev pub ShapeHasNoBuffers : Type 0
ShapeHasNoBuffers = (m : Module) → has_ring_shape m ≡ true → buffers_at (entry_definition m desc_entry.number) ≡ 0
