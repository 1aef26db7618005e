-- What C is told of a code's tables, and of the last failure (own rule; capi/td.h).
use Rattle.std.specs.Prelude.{◌≡◌, ◌⊎◌, ℕ, ℤ, pos, ◌<◌, ◌≤◌, ◌^◌, List, length, min, take, drop, slice_get, IsSomeAnd, Option, Some, None}
use Rattle.std.specs.Arc.{arc_value}
use Rattle.td_num.specs.Numbers.{bytes_in}
use Rattle.td_core.specs.declared.module.NameId.{NameId}
use Rattle.td_core.specs.declared.module.Param.{Param}
use Rattle.td_core.specs.declared.module.Cell.{Cell}
use Rattle.td_core.specs.declared.module.CellKind.{CellKind}
use Rattle.td_core.specs.declared.module.CellKind.TheVariants.{Number, Pointer}
use Rattle.td_ir.specs.Tables.{entry_of, routine_of, param_of, cell_of, buffer_of}
use Rattle.td_ir.specs.Entries.{IsEntryNamed, IsFirstNamed}
use Rattle.td_session.specs.declared.session.Session.{Session}
use Rattle.td_c.specs.declared.answers.TdFrame.{TdFrame}
use Rattle.td_c.specs.declared.handle.Slot.{Slot}
use Rattle.td_c.specs.declared.tables.TdBuffer.{TdBuffer}
use Rattle.td_c.specs.declared.tables.TdEntry.{TdEntry}
use Rattle.td_c.specs.declared.tables.TdPart.{TdPart}
use Rattle.td_c.specs.Numbers.{frame_told}

abbrev pub looked_up_by : Option Session → ℤ → Type 0
looked_up_by None code = code ≡ pos 3
looked_up_by (Some s) code = (code ≡ pos 0) ⊎ (code ≡ pos 5)

-- the number that answers what is looked up in a slot: 3 just where it holds no session, else 0 (it is there) or 5 (it isn't)
abbrev pub IsLookup : Slot → ℤ → Type 0
IsLookup slot code = looked_up_by slot.session code

-- the first entry point of a name
abbrev pub IsFound : Slot → List ℕ → ℕ → Type 0
IsFound slot name number = IsSomeAnd slot.session (λ s. IsFirstNamed (arc_value s.code) name (record { number = number }))

-- no entry point that a number of 32 bits names has this name
abbrev pub IsLost : Slot → List ℕ → Type 0
IsLost slot name = IsSomeAnd slot.session (λ s. (n : ℕ) → n < 2 ^ 32 → IsEntryNamed (arc_value s.code) name n → ⊥)

abbrev pub param_told : Param → TdPart
param_told p = record { name = p.name.number; has_field = 0; field = 0; bytes = bytes_in p.width; is_place = 0 }

-- 1 and the field's number, where there is one
abbrev pub field_told : Option NameId → ℕ × ℕ
field_told (Some name) = (1, name.number)
field_told None = (0, 0)

-- how many bytes, and 1 for a place in the message
abbrev pub kind_told : CellKind → ℕ × ℕ
kind_told (Number width) = (bytes_in width, 0)
kind_told Pointer = (4, 1)

abbrev pub cell_told : Cell → TdPart
cell_told c = record { name = c.name.number; has_field = (field_told c.field).0; field = (field_told c.field).1; bytes = (kind_told c.kind).0; is_place = (kind_told c.kind).1 }

-- the entry point of this number: its name and counts; and 0, which means nothing yet
pub record IsEntry (s : Session) (number : ℕ) (told : TdEntry) : Type 0 where
  pub there : number < length (arc_value s.code).entries
  pub name : told.name ≡ (routine_of (arc_value s.code) (entry_of (arc_value s.code) number).routine).name.number
  pub unused : told.unused ≡ 0
  pub params : told.param_count ≡ length (entry_of (arc_value s.code) number).params
  pub cells : told.cell_count ≡ length (entry_of (arc_value s.code) number).cells
  pub buffers : told.buffer_count ≡ length (entry_of (arc_value s.code) number).buffers

abbrev pub HasEntry : Slot → ℕ → TdEntry → Type 0
HasEntry slot number told = IsSomeAnd slot.session (λ s. IsEntry s number told)

-- the code has no such entry point
abbrev pub LacksEntry : Slot → ℕ → Type 0
LacksEntry slot number = IsSomeAnd slot.session (λ s. length (arc_value s.code).entries ≤ number)

-- the parameter, cell or frame that stands at this place, or that none does
abbrev pub HasParam : Slot → ℕ → ℕ → TdPart → Type 0
HasParam slot number place told = IsSomeAnd slot.session (λ s. (number < length (arc_value s.code).entries)
    × (place < length (entry_of (arc_value s.code) number).params)
    × (told ≡ param_told (param_of (entry_of (arc_value s.code) number).params place)))

abbrev pub LacksParam : Slot → ℕ → ℕ → Type 0
LacksParam slot number place = IsSomeAnd slot.session (λ s. (length (arc_value s.code).entries ≤ number)
    ⊎ (length (entry_of (arc_value s.code) number).params ≤ place))

abbrev pub HasCell : Slot → ℕ → ℕ → TdPart → Type 0
HasCell slot number place told = IsSomeAnd slot.session (λ s. (number < length (arc_value s.code).entries)
    × (place < length (entry_of (arc_value s.code) number).cells)
    × (told ≡ cell_told (cell_of (entry_of (arc_value s.code) number).cells place)))

abbrev pub LacksCell : Slot → ℕ → ℕ → Type 0
LacksCell slot number place = IsSomeAnd slot.session (λ s. (length (arc_value s.code).entries ≤ number)
    ⊎ (length (entry_of (arc_value s.code) number).cells ≤ place))

-- the copy buffer at this place among an entry point's: its name, and its room
abbrev pub HasBuffer : Slot → ℕ → ℕ → TdBuffer → Type 0
HasBuffer slot number place told = IsSomeAnd slot.session (λ s. (number < length (arc_value s.code).entries)
    × (place < length (entry_of (arc_value s.code) number).buffers)
    × (told.name ≡ (buffer_of (entry_of (arc_value s.code) number).buffers place).number)
    × (slice_get (routine_of (arc_value s.code) (entry_of (arc_value s.code) number).routine).buffers place ≡ Some told.room))

abbrev pub LacksBuffer : Slot → ℕ → ℕ → Type 0
LacksBuffer slot number place = IsSomeAnd slot.session (λ s. (length (arc_value s.code).entries ≤ number)
    ⊎ (length (entry_of (arc_value s.code) number).buffers ≤ place))

-- bytes that were so begin with this text, as far as there is room for it, and are as before behind it
pub record IsWritten (text was bytes : List ℕ) : Type 0 where
  pub front : take (min (length text) (length was)) bytes ≡ take (min (length text) (length was)) text
  pub behind : drop (min (length text) (length was)) bytes ≡ drop (min (length text) (length was)) was

-- how many bytes the copy buffer at this place holds, and as many of them as there is room for
abbrev pub HasCopy : Slot → ℕ → List ℕ → List ℕ → ℕ → Type 0
HasCopy slot place was bytes size = IsSomeAnd slot.session (λ s. IsSomeAnd (slice_get s.frame.copies place) (λ b. (size ≡ length b.held) × IsWritten b.held was bytes))

-- no entry point of the code has so many buffers
abbrev pub LacksCopy : Slot → ℕ → Type 0
LacksCopy slot place = IsSomeAnd slot.session (λ s. length s.frame.copies ≤ place)

abbrev pub HasFrame : Slot → ℕ → TdFrame → Type 0
HasFrame slot place told = IsSomeAnd slot.session (λ s. IsSomeAnd (slice_get s.frame.trace place) (λ f. told ≡ frame_told f))

abbrev pub LacksFrame : Slot → ℕ → Type 0
LacksFrame slot place = IsSomeAnd slot.session (λ s. length s.frame.trace ≤ place)

-- a name's size, and as many of its bytes as there is room for
abbrev pub HasName : Slot → ℕ → List ℕ → List ℕ → ℕ → Type 0
HasName slot number was bytes size = IsSomeAnd slot.session (λ s. IsSomeAnd (slice_get (arc_value s.code).names number) (λ text. (size ≡ length text) × IsWritten text was bytes))

-- the code has no such name
abbrev pub LacksName : Slot → ℕ → Type 0
LacksName slot number = IsSomeAnd slot.session (λ s. length (arc_value s.code).names ≤ number)
