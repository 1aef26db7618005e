-- Elements that are passed over without a look; of use inside this crate alone.
use Rattle.std.specs.Prelude.{◌≡◌, ℕ, zero, suc, ◌+◌, ◌≤◌, ◌<◌, ◌%◌, Bool, false, nat_eq, List, [], ◌∷◌, Option, Some, None, slice_get}
use Rattle.td_direct.specs.Imports.{Element, Extent, Part, Field, Module}
use Rattle.td_core.specs.Outcome.{accepted}
use Rattle.td_meaning.specs.Naming.{element_names, extent_names}
use Rattle.td_meaning.specs.Words64.{below, element_meaning, shape_meaning}

-- wherever an element has its bytes it accepts, reads nothing and changes nothing
abbrev pub IsPassed : Module → ℕ → Element → ℕ → Type 0
IsPassed m bound element size =
    (env places b : List ℕ) (start end p : ℕ) (cells : List ℕ) → p + size ≤ end
    → element_meaning m.listed (below m.listed m.definitions bound) element env places b start end p cells ≡ accepted (p + size) cells

-- so does each definition that has a size in this list, wherever it is named
abbrev pub AreSizes : Module → List (Option ℕ) → Type 0
AreSizes m sizes =
    (j size : ℕ) → slice_get sizes j ≡ Some (Some size) → (bound : ℕ) → j < bound
    → (args places cells b : List ℕ) (p end : ℕ) → p + size ≤ end
    → below m.listed m.definitions bound j args places cells b p end ≡ accepted (p + size) cells

-- elements of such a size fill so many bytes
abbrev pub passes_all : Option ℕ → ℕ → Bool
passes_all None count = false
passes_all (Some zero) count = false
passes_all (Some (suc size)) count = nat_eq (count % suc size) 0

-- so does what stands in a field
abbrev pub IsShapePassed : Module → ℕ → Element → Extent → ℕ → Type 0
IsShapePassed m bound element extent size =
    (env places b : List ℕ) (end p : ℕ) (cells : List ℕ) → p + size ≤ end
    → shape_meaning m.listed (below m.listed m.definitions bound) element extent env places b end p cells ≡ accepted (p + size) cells

-- parts without a test or an action
abbrev pub ArePlainParts : List Part → Type 0
ArePlainParts [] = Unit {0}
ArePlainParts (p ∷ ps) = ((p.refinement ≡ None) × (p.action ≡ None)) × ArePlainParts ps

-- a field of this size that names nothing and is passed over without a look
pub record IsQuiet (m : Module) (bound : ℕ) (f : Field) (size : ℕ) : Type 0 where
  pub copy : f.copy ≡ None
  pub shape : IsShapePassed m bound f.element f.extent size
  pub element : (i : ℕ) → element_names i f.element ≡ false
  pub extent : (i : ℕ) → extent_names i f.extent ≡ false
  pub parts : ArePlainParts f.parts

-- a size of two parts
pub record Split (P Q : ℕ → Type 0) (size : ℕ) : Type 0 where
  pub first : ℕ
  pub rest : ℕ
  pub one : P first
  pub others : Q rest
  pub is : size ≡ first + rest

-- such fields, of this size together
abbrev pub AreQuiet : Module → ℕ → List Field → ℕ → Type 0
AreQuiet m bound [] size = size ≡ 0
AreQuiet m bound (f ∷ fs) size = Split (IsQuiet m bound f) (AreQuiet m bound fs) size
