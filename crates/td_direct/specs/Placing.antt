-- Where the cells of definitions and the buffers of the entry point lie; of use inside this crate alone. All numbers stand in one list:
-- first those of the entry point's cells, and then the two of each of its copy buffers.
use Rattle.std.specs.Prelude.{◌≡◌, ℕ, ◌+◌, ◌*◌, ◌<◌, ◌≤◌, List, length, map, Option, Some, None, slice_get, slice_index}
use Rattle.td_num.specs.Lists.{Each}
use Rattle.td_core.specs.Copies.{IsDefinitionCopying, NamesCells}
use Rattle.td_core.specs.Held.{IsBufferAt}
use Rattle.td_core.specs.WellFormed.{OfSome, EachField}
use Rattle.td_direct.specs.Imports.{Buffer, CopyOut, Element, Named, Part, Field, TypeDef}

-- a definition's cells are some of the first ones, and each of its buffers is one of the entry point's that has room for it
pub record HasPlaces (d : TypeDef) (places : List ℕ) (first : ℕ) (rooms : List ℕ) : Type 0 where
  pub cells : (k : ℕ) → k < length d.cells → slice_index places k < first
  pub buffers : (k : ℕ) (b : Buffer) → slice_get d.buffers k ≡ Some b → IsBufferAt (slice_index places (length d.cells + 2 * k)) (slice_index places (length d.cells + 2 * k + 1)) b.room first rooms

abbrev pub IsPlaced : Option TypeDef → List ℕ → ℕ → List ℕ → Type 0
IsPlaced None places first rooms = Unit {0}
IsPlaced (Some d) places first rooms = HasPlaces d places first rooms

-- so does a definition that is named in another one whose places these are
abbrev pub IsElementPlaced : List TypeDef → List ℕ → ℕ → List ℕ → Element → Type 0
IsElementPlaced ds places first rooms (Named j args own) = IsPlaced (slice_get ds j) (map (slice_index places) own) first rooms
IsElementPlaced ds places first rooms element = Unit {0}

abbrev pub IsCopyPlaced : List ℕ → ℕ → List ℕ → Option CopyOut → Type 0
IsCopyPlaced places first rooms copy = OfSome (λ (c : CopyOut). IsBufferAt (slice_index places c.cell) (slice_index places (c.cell + 1)) c.room first rooms) copy

-- actions name cells among the first ones alone
pub record AreActionsPlaced (places : List ℕ) (first : ℕ) (parts : List Part) : Type 0 where
  pub count : ℕ
  pub cells : (k : ℕ) → k < count → slice_index places k < first
  pub named : Each (λ (p : Part). OfSome (NamesCells count) p.action) parts

pub record IsFieldPlaced (ds : List TypeDef) (places : List ℕ) (first : ℕ) (rooms : List ℕ) (f : Field) : Type 0 where
  pub copy : IsCopyPlaced places first rooms f.copy
  pub element : IsElementPlaced ds places first rooms f.element
  pub actions : AreActionsPlaced places first f.parts

-- a type that is named has a number for each of its cells
abbrev pub IsLongFor : Option TypeDef → List ℕ → Type 0
IsLongFor None own = Unit {0}
IsLongFor (Some e) own = length e.cells ≤ length own

abbrev pub IsElementLong : List TypeDef → Element → Type 0
IsElementLong ds (Named j args own) = IsLongFor (slice_get ds j) own
IsElementLong ds element = Unit {0}

-- what is said of a definition's copies and cells
pub record IsDefinitionGiven (ds : List TypeDef) (d : TypeDef) : Type 0 where
  pub copying : IsDefinitionCopying ds d
  pub long : EachField (λ f. IsElementLong ds f.element) d.body

abbrev pub AreGiven : List TypeDef → Type 0
AreGiven ds = Each (IsDefinitionGiven ds) ds
