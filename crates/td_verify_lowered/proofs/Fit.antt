-- What the tables of code have for a definition's fields (own rule).
use Rattle.std.specs.Prelude.{◌≡◌, ℕ, ◌+◌, ◌<◌, ◌≤◌, Bool, true, List, [], ◌∷◌, length, Option, Some, None}
use Rattle.td_num.specs.Lists.{Each}
use Rattle.td_verify_lowered.specs.Imports.{Element, Number, Listed, Named, Unit as UnitElement, Rest, Zeros, Extent, Filling, Bits, CopyOut, Field, Case, Body, Struct, Casetype, Parts}
use Rattle.td_ir.specs.Tables.{routine_of}
use Rattle.td_verify.specs.Operands.{IsCellMap}
use Rattle.td_lower_blocks.specs.Lowered.{parts_in}
use Rattle.td_lower_blocks.specs.Tops.{extent_cells, parts_cells}

-- some bits of a number
abbrev pub BitsFit : Option Bits → Type 0
BitsFit None = Unit {0}
BitsFit (Some b) = (b.low + b.width ≤ 64) × (1 ≤ b.width)

module _ (c : Parts) (depth : ℕ → ℕ) (busy : ℕ → Bool) (n : ℕ) where
  -- a type that is named in routine n is less deep, and its cell map leads from its cells and buffers to this routine's; an enum has a set
  abbrev pub ElementFits : ℕ → Element → Type 0
  ElementFits site (Number type) = Unit {0}
  ElementFits site (Listed base v) = v < length c.sets
  ElementFits site (Named d args own) =
      (depth d + 1 ≤ depth n) × (site < length c.maps → IsCellMap c n d site)
  ElementFits site UnitElement = Unit {0}
  ElementFits site Rest = Unit {0}
  ElementFits site Zeros = Unit {0}

  -- the elements of an array take a byte
  abbrev pub ArrayFits : Element → Extent → Type 0
  ArrayFits (Named d args own) (Filling size step) = busy d ≡ true
  ArrayFits element extent = Unit {0}

  -- what is copied goes to one of the routine's buffers
  abbrev pub CopyFits : Option CopyOut → Type 0
  CopyFits None = Unit {0}
  CopyFits (Some w) = w.buffer < length (routine_of c n).buffers

  pub record FieldFits (site : ℕ) (f : Field) : Type 0 where
    pub element : ElementFits site f.element
    pub array : ArrayFits f.element f.extent
    pub copy : CopyFits f.copy
    pub cells : parts_cells f.parts ≤ (routine_of c n).cells
    pub source : extent_cells f.extent ≤ (routine_of c n).cells
    pub bits : Each (λ p. BitsFit p.bits) f.parts

  abbrev pub FieldsFit : ℕ → List Field → Type 0
  FieldsFit site [] = Unit {0}
  FieldsFit site (f ∷ fs) = FieldFits site f × FieldsFit (length f.parts + site) fs

  abbrev pub DefaultFits : ℕ → Option (List Field) → Type 0
  DefaultFits site None = Unit {0}
  DefaultFits site (Some fs) = FieldsFit site fs

  abbrev pub CasesFit : ℕ → List Case → Option (List Field) → Type 0
  CasesFit site [] default = DefaultFits site default
  CasesFit site (c ∷ cs) default = FieldsFit site c.fields × CasesFit (parts_in c.fields + site) cs default

  abbrev pub BodyFits : ℕ → Body → Type 0
  BodyFits site (Struct fs) = FieldsFit site fs
  BodyFits site (Casetype e cases default) = CasesFit site cases default
