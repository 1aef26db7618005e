-- Buffers for the copies of a validation.
use Rattle.std.specs.Prelude.{◌≡◌, ℕ, ◌≤◌, List, [], ◌∷◌, length, map, Option, Some, None}
use Rattle.td_core.specs.Entries.{entry_definition}
use Rattle.td_direct.specs.Imports.{Buffer, Entry, Module, TypeDef}
use Rattle.td_stream.specs.Copies.{BufferView, empty_with}

-- an empty buffer for each copy parameter, in order, with at least its room
abbrev pub AreBuffersFor : List Buffer → List BufferView → Type 0
AreBuffersFor [] [] = Unit {0}
AreBuffersFor [] (v ∷ vs) = ⊥
AreBuffersFor (b ∷ bs) [] = ⊥
AreBuffersFor (b ∷ bs) (v ∷ vs) = (v.held ≡ []) × ((b.room ≤ v.room) × AreBuffersFor bs vs)

-- so many cells and these buffers are those of a definition
abbrev pub AreOfDefinition : Option TypeDef → ℕ → List BufferView → Type 0
AreOfDefinition None cells buffers = buffers ≡ []
AreOfDefinition (Some d) cells buffers = (cells ≡ length d.cells) × AreBuffersFor d.buffers buffers

-- those of an entry point; one that the module doesn't have has no buffers
abbrev pub AreOfEntry : Module → Entry → ℕ → List BufferView → Type 0
AreOfEntry m entry cells buffers = AreOfDefinition (entry_definition m entry.number) cells buffers

-- a buffer that holds nothing, with just the room of a copy parameter
abbrev pub empty_for : Buffer → BufferView
empty_for b = empty_with b.room

-- one for each copy parameter of a definition
abbrev pub empty_of : Option TypeDef → List BufferView
empty_of None = []
empty_of (Some d) = map empty_for d.buffers
