-- What holds of every module that a checked text stands for, part by part (own rule). All of it is the record `IsChecked` of
-- td_front.
use Rattle.std.specs.Prelude.{◌≡◌, ◌≢◌, ℕ, ◌+◌, ◌*◌, ◌<◌, ◌≤◌, Bool, true, false, List, [], ◌∷◌, length, Option, Some, None}
use Rattle.td_num.specs.Numbers.{bytes_in}
use Rattle.td_num.specs.declared.number.NumberType.{NumberType}
use Rattle.td_num.specs.Lists.{Each}
use Rattle.td_core.specs.Term.{Term, number, name, complement, negation, compute, compare, both, either, choice, range_okay, Deed, done, set, keep, fork, answer, give_up}
use Rattle.td_core.specs.declared.expressions.Scalar.TheVariants.{Truth}
use Rattle.td_core.specs.declared.module.NameId.{NameId}
use Rattle.td_core.specs.declared.module.Element.{Element}
use Rattle.td_core.specs.declared.module.Element.TheVariants.{Number, Listed, Named, Unit as UnitElement, Rest, Zeros}
use Rattle.td_core.specs.declared.module.Extent.{Extent}
use Rattle.td_core.specs.declared.module.Extent.TheVariants.{Once, Filling, OnceFilling, UpToZero, Given}
use Rattle.td_core.specs.declared.module.Source.{Source}
use Rattle.td_core.specs.declared.module.Source.TheVariants.{Expression, Cell as FromCell, Left}
use Rattle.td_core.specs.declared.module.Bits.{Bits}
use Rattle.td_core.specs.declared.module.Part.{Part}
use Rattle.td_core.specs.declared.module.Field.{Field}
use Rattle.td_core.specs.declared.module.Body.{Body}
use Rattle.td_core.specs.declared.module.Body.TheVariants.{Struct, Casetype}
use Rattle.td_core.specs.declared.module.TypeDef.{TypeDef}
use Rattle.td_core.specs.declared.module.Module.{Module}
use Rattle.td_core.specs.declared.limits.TheConstants.{MOST_DEFINITIONS, MOST_FIELDS, MOST_CASES, MOST_PARAMETERS, MOST_CELLS}
use Rattle.td_core.specs.Types.{type_of}

-- of what may be there
abbrev pub OfSome : {A : Type 0} → (A → Type 0) → Option A → Type 0
OfSome P None = Unit {0}
OfSome P (Some x) = P x

-- each field of a definition: of a struct, or of each case and `default`
abbrev pub EachField : (Field → Type 0) → Body → Type 0
EachField P (Struct fs) = Each P fs
EachField P (Casetype switch cases default) = Each (λ c. Each P c.fields) cases × OfSome (Each P) default

-- Truth values and numbers

-- a truth value, or a number
abbrev pub HasSort : Bool → Term → Type 0
HasSort true e = type_of e ≡ Truth
HasSort false e = type_of e ≢ Truth

-- each operand is a truth value or a number, as its operator wants it
abbrev pub HasSorts : Term → Type 0
HasSorts (number n w) = Unit {0}
HasSorts (name i w most) = Unit {0}
HasSorts (complement a) = HasSort false a × HasSorts a
HasSorts (negation a) = HasSort true a × HasSorts a
HasSorts (compute op s a b) = (HasSort false a × HasSorts a) × (HasSort false b × HasSorts b)
HasSorts (compare r a b) = (HasSort false a × HasSorts a) × (HasSort false b × HasSorts b)
HasSorts (both a b) = (HasSort true a × HasSorts a) × (HasSort true b × HasSorts b)
HasSorts (either a b) = (HasSort true a × HasSorts a) × (HasSort true b × HasSorts b)
HasSorts (choice c a b) =
    (HasSort true c × HasSorts c) × ((truth : Bool) × ((HasSort truth a × HasSorts a) × (HasSort truth b × HasSorts b)))
HasSorts (range_okay s o a) = (HasSort false s × HasSorts s) × ((HasSort false o × HasSorts o) × (HasSort false a × HasSorts a))

-- an expression where a truth value stands, or a number
abbrev pub IsSorted : Bool → Term → Type 0
IsSorted truth e = HasSort truth e × HasSorts e

-- what is assigned is a number, and a condition and what is returned are truth values
abbrev pub IsDeedSorted : Deed → Type 0
IsDeedSorted done = Unit {0}
IsDeedSorted (set cell e then) = IsSorted false e × IsDeedSorted then
IsDeedSorted (keep cell then) = IsDeedSorted then
IsDeedSorted (fork e one other then) = IsSorted true e × (IsDeedSorted one × (IsDeedSorted other × IsDeedSorted then))
IsDeedSorted (answer e) = IsSorted true e
IsDeedSorted give_up = Unit {0}

-- arguments are numbers
abbrev pub IsElementSorted : Element → Type 0
IsElementSorted (Number type) = Unit {0}
IsElementSorted (Listed base values) = Unit {0}
IsElementSorted (Named definition args cells) = Each (IsSorted false) args
IsElementSorted UnitElement = Unit {0}
IsElementSorted Rest = Unit {0}
IsElementSorted Zeros = Unit {0}

-- what a number comes from is a number
abbrev pub IsSourceSorted : Source → Type 0
IsSourceSorted (Expression span e) = IsSorted false e
IsSourceSorted (FromCell cell) = Unit {0}
IsSourceSorted Left = Unit {0}

-- sizes are numbers
abbrev pub IsExtentSorted : Extent → Type 0
IsExtentSorted Once = Unit {0}
IsExtentSorted (Filling size step) = IsSorted false size
IsExtentSorted (OnceFilling size step) = IsSorted false size
IsExtentSorted (UpToZero size) = IsSorted false size
IsExtentSorted (Given source) = IsSourceSorted source

-- a refinement is a truth value
abbrev pub IsPartSorted : Part → Type 0
IsPartSorted p = OfSome (IsSorted true) p.refinement × OfSome IsDeedSorted p.action

abbrev pub IsFieldSorted : Field → Type 0
IsFieldSorted f = IsElementSorted f.element × (IsExtentSorted f.extent × Each IsPartSorted f.parts)

-- a switch value is a number
abbrev pub IsSwitchSorted : Body → Type 0
IsSwitchSorted (Struct fs) = Unit {0}
IsSwitchSorted (Casetype switch cases default) = IsSorted false switch

pub record IsDefinitionSorted (d : TypeDef) : Type 0 where
  pub guard : OfSome (IsSorted true) d.guard
  pub switch : IsSwitchSorted d.body
  pub fields : EachField IsFieldSorted d.body

-- Fields

-- a field has at least one part
abbrev pub HasParts : List Part → Type 0
HasParts [] = ⊥
HasParts (p ∷ ps) = Unit {0}

-- these bits are some of a number's
abbrev pub AreBitsOf : NumberType → Option Bits → Type 0
AreBitsOf type None = ⊥
AreBitsOf type (Some bits) = (0 < bits.width) × (bits.low + bits.width ≤ 8 * bytes_in type.width)

-- bit fields stand in one number; else there is one part, which is all of the field
abbrev pub AreParts : Element → Extent → Option Bits → List Part → Type 0
AreParts (Number type) Once (Some bits) ps = AreBitsOf type (Some bits) × Each (λ p. AreBitsOf type p.bits) ps
AreParts element extent None ps = ps ≡ []
AreParts element extent bits ps = ⊥

-- there is at least one part
abbrev pub AreFieldParts : Element → Extent → List Part → Type 0
AreFieldParts element extent [] = ⊥
AreFieldParts element extent (p ∷ ps) = AreParts element extent p.bits ps

-- only numbers and enums are refined
abbrev pub IsRefinable : Element → Extent → Part → Type 0
IsRefinable (Number type) Once p = Unit {0}
IsRefinable (Listed base values) Once p = Unit {0}
IsRefinable (Number type) (Given source) p = Unit {0}
IsRefinable element extent p = p.refinement ≡ None

-- an array up to a zero has numbers alone, and a field without bytes is one
abbrev pub IsOfNumbers : Element → Extent → Type 0
IsOfNumbers (Number type) extent = Unit {0}
IsOfNumbers element Once = Unit {0}
IsOfNumbers element (Filling size step) = Unit {0}
IsOfNumbers element (OnceFilling size step) = Unit {0}
IsOfNumbers element (UpToZero size) = ⊥
IsOfNumbers element (Given source) = ⊥

-- an enum's values are in the module
abbrev pub IsEnumThere : ℕ → Element → Type 0
IsEnumThere count (Number type) = Unit {0}
IsEnumThere count (Listed base values) = values < count
IsEnumThere count (Named definition args cells) = Unit {0}
IsEnumThere count UnitElement = Unit {0}
IsEnumThere count Rest = Unit {0}
IsEnumThere count Zeros = Unit {0}

-- of a module with so many enums
pub record IsFieldWhole (count : ℕ) (f : Field) : Type 0 where
  pub parts : AreFieldParts f.element f.extent f.parts
  pub refined : Each (IsRefinable f.element f.extent) f.parts
  pub numbers : IsOfNumbers f.element f.extent
  pub listed : IsEnumThere count f.element

-- each field has at least one part, and each entry point a definition
pub record IsWhole (m : Module) : Type 0 where
  pub parts : Each (λ d. EachField (λ f. HasParts f.parts) d.body) m.definitions
  pub entries : Each (λ place. place < length m.definitions) m.entries

-- Names

-- among so many names
abbrev pub IsNameThere : ℕ → NameId → Type 0
IsNameThere count id = id.number < count

-- the names of a definition, of its parameters, cells and copy buffers, and of its fields, are among so many
pub record IsDefinitionNamed (count : ℕ) (d : TypeDef) : Type 0 where
  pub own : IsNameThere count d.name
  pub params : Each (λ p. IsNameThere count p.name) d.params
  pub cells : Each (λ c. IsNameThere count c.name × OfSome (IsNameThere count) c.field) d.cells
  pub buffers : Each (λ b. IsNameThere count b.name) d.buffers
  pub fields : EachField (λ f. Each (λ p. IsNameThere count p.name) f.parts) d.body

-- Limits

-- so many fields, cases and the like has a text at most
abbrev pub FieldsWithin : List Field → Type 0
FieldsWithin fs = length fs ≤ MOST_FIELDS

abbrev pub BodyWithin : Body → Type 0
BodyWithin (Struct fs) = FieldsWithin fs
BodyWithin (Casetype switch cases default) = (length cases ≤ MOST_CASES) × (Each (λ c. FieldsWithin c.fields) cases × OfSome FieldsWithin default)

pub record DefinitionWithin (d : TypeDef) : Type 0 where
  pub params : length d.params ≤ MOST_PARAMETERS
  pub cells : length d.cells ≤ MOST_CELLS
  pub buffers : length d.buffers ≤ MOST_PARAMETERS
  pub body : BodyWithin d.body

pub record IsWithin (m : Module) : Type 0 where
  pub written : m.written ≤ MOST_DEFINITIONS
  pub definitions : length m.definitions ≤ m.written
  pub each : Each DefinitionWithin m.definitions
