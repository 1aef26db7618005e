-- The frames of a rejection (own rule).
use Rattle.std.specs.Prelude.{◌≡◌, ◌⊎◌, ℕ, List, [], ◌∷◌, Option, Some, None, slice_get}
use Rattle.td_num.specs.Lists.{Each}
use Rattle.td_core.specs.Term.{Term}
use Rattle.td_meaning.specs.Imports.{NameId, Field as FieldDef, Body, Struct, Casetype, Module, Entry, TypeDef, Reason, Padding, Spot, TraceFrame}
use Rattle.td_core.specs.declared.outcome.Spot.TheVariants.{Field, Where, Switch}
use Rattle.td_core.specs.Outcome.{Ending, Accepted, Rejected}
use Rattle.td_core.specs.Formed.{IsModuleFormed}
use Rattle.td_core.specs.WellFormed.{IsWhole}
use Rattle.td_meaning.specs.Meaning.{meaning}

-- all frames have this reason
abbrev pub AllFor : Reason → List TraceFrame → Type 0
AllFor reason [] = Unit {0}
AllFor reason (f ∷ fs) = (f.reason ≡ reason) × AllFor reason fs

-- a failure has a frame, each frame has its reason, and its place is where the innermost frame's field began, or a byte
-- that should have been zero
abbrev pub IsFramed : Ending → Type 0
IsFramed (Accepted position cells) = Unit {0}
IsFramed (Rejected reason position [] cells) = ⊥
IsFramed (Rejected reason position (f ∷ fs) cells) = ((reason ≡ Padding) ⊎ (position ≡ f.start)) × AllFor reason (f ∷ fs)

abbrev pub RejectionsAreFramed : Type 0
RejectionsAreFramed =
    (m : Module) (entry : Entry) (place : ℕ) (d : TypeDef) (args cells message : List ℕ) →
    IsModuleFormed m → slice_get m.entries entry.number ≡ Some place → slice_get m.definitions place ≡ Some d →
    IsFramed (meaning m entry args cells message).ending

-- Names

abbrev pub OneOf : {A : Type 0} → (A → Type 0) → List A → Type 0
OneOf P [] = ⊥
OneOf P (x ∷ xs) = P x ⊎ OneOf P xs

-- a part of one of these fields has this name
abbrev pub IsPartName : NameId → List FieldDef → Type 0
IsPartName name fs = OneOf (λ f. OneOf (λ part. part.name ≡ name) f.parts) fs

abbrev pub IsDefaultName : NameId → Option (List FieldDef) → Type 0
IsDefaultName name None = ⊥
IsDefaultName name (Some fs) = IsPartName name fs

abbrev pub IsBodyName : NameId → Body → Type 0
IsBodyName name (Struct fs) = IsPartName name fs
IsBodyName name (Casetype switch cases default) = OneOf (λ c. IsPartName name c.fields) cases ⊎ IsDefaultName name default

abbrev pub HasGuard : Option Term → Type 0
HasGuard None = ⊥
HasGuard (Some e) = Unit {0}

abbrev pub IsCasetype : Body → Type 0
IsCasetype (Struct fs) = ⊥
IsCasetype (Casetype switch cases default) = Unit {0}

-- what a frame may name in a definition: a part of one of its fields, its `where`, or its switch value
abbrev pub IsSpotOf : TypeDef → Spot → Type 0
IsSpotOf d (Field name) = IsBodyName name d.body
IsSpotOf d Where = HasGuard d.guard
IsSpotOf d Switch = IsCasetype d.body

pub record IsFrameOf (d : TypeDef) (frame : TraceFrame) : Type 0 where
  pub ty : frame.ty ≡ d.name
  pub spot : IsSpotOf d frame.field

-- the last of the frames, which is the outermost
abbrev pub LastIs : (TraceFrame → Type 0) → List TraceFrame → Type 0
LastIs P [] = ⊥
LastIs P (f ∷ []) = P f
LastIs P (f ∷ g ∷ fs) = LastIs P (g ∷ fs)

-- each frame of a failure names a definition of the list and something of it, and the outermost one names this one
abbrev pub AreNamed : List TypeDef → TypeDef → Ending → Type 0
AreNamed ds d (Accepted position cells) = Unit {0}
AreNamed ds d (Rejected reason position trace cells) = Each (λ frame. OneOf (λ e. IsFrameOf e frame) ds) trace × LastIs (IsFrameOf d) trace

-- so fails each entry point, where each field of the module has a part
abbrev pub FramesAreNamed : Type 0
FramesAreNamed =
    (m : Module) (entry : Entry) (place : ℕ) (d : TypeDef) (args cells message : List ℕ) →
    IsWhole m → slice_get m.entries entry.number ≡ Some place → slice_get m.definitions place ≡ Some d →
    AreNamed m.definitions d (meaning m entry args cells message).ending
