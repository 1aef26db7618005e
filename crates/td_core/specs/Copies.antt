-- Copy buffers in a module (own rule): a buffer is two cells, behind those of the definition's other parameters, and it is
-- given on with its room.
use Rattle.std.specs.Prelude.{◌≡◌, ℕ, true, ◌+◌, ◌*◌, ◌<◌, ◌≤◌, List, [], ◌∷◌, length, take, drop, Option, Some, None, slice_get}
use Rattle.td_num.specs.Lists.{Each}
use Rattle.td_core.specs.Term.{Deed, done, set, keep, fork, answer, give_up}
use Rattle.td_core.specs.declared.module.Element.{Element}
use Rattle.td_core.specs.declared.module.Element.TheVariants.{Number, Named}
use Rattle.td_core.specs.declared.module.Extent.{Extent}
use Rattle.td_core.specs.declared.module.Extent.TheVariants.{Once, Filling, OnceFilling, UpToZero, Given}
use Rattle.td_core.specs.declared.module.Source.{Source}
use Rattle.td_core.specs.declared.module.Source.TheVariants.{Expression, Cell as FromCell, Left}
use Rattle.td_core.specs.declared.module.CopyOut.{CopyOut}
use Rattle.td_core.specs.declared.module.Buffer.{Buffer}
use Rattle.td_core.specs.declared.module.Part.{Part}
use Rattle.td_core.specs.declared.module.Field.{Field}
use Rattle.td_core.specs.declared.module.TypeDef.{TypeDef}
use Rattle.td_core.specs.declared.module.Module.{Module}
use Rattle.td_core.specs.declared.limits.TheConstants.{MOST_ROOM}
use Rattle.td_core.specs.Types.{is_octet}
use Rattle.td_core.specs.WellFormed.{OfSome, EachField}

-- Fields

-- the bytes of a byte-sized array of UINT8 alone are copied, and that is all that is done in the field
abbrev pub IsCopied : Element → Extent → List Part → Type 0
IsCopied (Number type) (Filling size step) (p ∷ []) = (is_octet type.width type.order ≡ true) × ((step ≡ Some 1) × ((p.refinement ≡ None) × (p.action ≡ None)))
IsCopied element extent parts = ⊥

-- a cell is the first of those of a buffer of this room, of a definition with so many cells and these buffers
pub record IsBufferCell (cells : ℕ) (buffers : List Buffer) (cell room : ℕ) : Type 0 where
  pub number : ℕ
  pub buffer : Buffer
  pub there : slice_get buffers number ≡ Some buffer
  pub room_is : buffer.room ≡ room
  pub cell_is : cell ≡ cells + 2 * number

pub record IsCopyWhole (d : TypeDef) (f : Field) (c : CopyOut) : Type 0 where
  pub field : IsCopied f.element f.extent f.parts
  pub buffer : IsBufferCell (length d.cells) d.buffers c.cell c.room
  pub number : c.cell ≡ length d.cells + 2 * c.buffer

-- Arguments

-- for each buffer of a callee the two cells of one of the caller's, of the same room
abbrev pub AreBuffersGiven : ℕ → List Buffer → List Buffer → List ℕ → Type 0
AreBuffersGiven cells buffers [] [] = Unit {0}
AreBuffersGiven cells buffers (b ∷ bs) (k ∷ l ∷ ks) = IsBufferCell cells buffers k b.room × ((l ≡ k + 1) × AreBuffersGiven cells buffers bs ks)
AreBuffersGiven cells buffers bs ks = ⊥

-- for each other cell of it one of the caller's others
abbrev pub AreOwnGiven : TypeDef → Option TypeDef → List ℕ → Type 0
AreOwnGiven d None own = Unit {0}
AreOwnGiven d (Some e) own =
    Each (λ k. k < length d.cells) (take (length e.cells) own) × AreBuffersGiven (length d.cells) d.buffers e.buffers (drop (length e.cells) own)

abbrev pub IsElementGiven : List TypeDef → TypeDef → Element → Type 0
IsElementGiven ds d (Named j args own) = AreOwnGiven d (slice_get ds j) own
IsElementGiven ds d element = Unit {0}

-- Actions name no cell of a buffer

abbrev pub NamesCells : ℕ → Deed → Type 0
NamesCells n done = Unit {0}
NamesCells n (set cell e then) = (cell < n) × NamesCells n then
NamesCells n (keep cell then) = (cell < n) × NamesCells n then
NamesCells n (fork e one other then) = NamesCells n one × (NamesCells n other × NamesCells n then)
NamesCells n (answer e) = Unit {0}
NamesCells n give_up = Unit {0}

-- Nor does a number without bytes

abbrev pub IsSourceOwn : ℕ → Source → Type 0
IsSourceOwn n (Expression span e) = Unit {0}
IsSourceOwn n (FromCell cell) = cell < n
IsSourceOwn n Left = Unit {0}

abbrev pub IsExtentOwn : ℕ → Extent → Type 0
IsExtentOwn n Once = Unit {0}
IsExtentOwn n (Filling size step) = Unit {0}
IsExtentOwn n (OnceFilling size step) = Unit {0}
IsExtentOwn n (UpToZero size) = Unit {0}
IsExtentOwn n (Given source) = IsSourceOwn n source

-- Definitions

pub record IsFieldCopying (ds : List TypeDef) (d : TypeDef) (f : Field) : Type 0 where
  pub copy : OfSome (IsCopyWhole d f) f.copy
  pub element : IsElementGiven ds d f.element
  pub actions : Each (λ p. OfSome (NamesCells (length d.cells)) p.action) f.parts
  pub source : IsExtentOwn (length d.cells) f.extent

pub record IsDefinitionCopying (ds : List TypeDef) (d : TypeDef) : Type 0 where
  pub rooms : Each (λ b. (0 < b.room) × (b.room ≤ MOST_ROOM)) d.buffers
  pub fields : EachField (IsFieldCopying ds d) d.body

-- of each module that a checked text stands for
abbrev pub IsCopying : Module → Type 0
IsCopying m = Each (IsDefinitionCopying m.definitions) m.definitions
