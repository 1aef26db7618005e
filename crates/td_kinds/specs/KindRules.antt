-- K1 and K2: where a kind is refused, and at which field (own rule, after EverParse).
use Rattle.std.specs.Prelude.{◌≡◌, ℕ, Bool, true, false, ◌||◌, ◌&&◌, not, nat_eq, List, [], ◌∷◌, ◌++◌, map, length, Option, Some, None}
use Rattle.td_num.specs.Numbers.{places_from}
use Rattle.td_core.specs.declared.kind.Kind.{Kind}
use Rattle.td_core.specs.declared.module.Extent.{Extent}
use Rattle.td_core.specs.declared.module.Extent.TheVariants.{Once, Filling, OnceFilling, UpToZero, Given}
use Rattle.td_core.specs.declared.module.Field.{Field}
use Rattle.td_core.specs.declared.module.Case.{Case}
use Rattle.td_core.specs.declared.module.Body.{Body}
use Rattle.td_core.specs.declared.module.Body.TheVariants.{Struct, Casetype}
use Rattle.td_core.specs.declared.module.TypeDef.{TypeDef}
use Rattle.td_core.specs.declared.module.Module.{Module}
use Rattle.td_kinds.specs.declared.error.KindFault.{KindFault}
use Rattle.td_kinds.specs.declared.error.KindFault.TheVariants.{ZeroElement, RestNotLast}
use Rattle.td_kinds.specs.declared.error.KindError.{KindError}
use Rattle.td_kinds.specs.declared.error.KindError.TheVariants.{ZeroElement as ZeroElementAt, RestNotLast as RestNotLastAt, NoMemory}
use Rattle.td_kinds.specs.Kinds.{element_kind, field_kind, kinds_below}

-- a byte-sized array
abbrev pub is_filled : Extent → Bool
is_filled Once = false
is_filled (Filling size step) = true
is_filled (OnceFilling size step) = false
is_filled (UpToZero size) = false
is_filled (Given source) = false

abbrev pub fault_if : Bool → KindFault → List KindFault
fault_if true fault = fault ∷ []
fault_if false fault = []

abbrev pub is_empty : {A : Type 0} → List A → Bool
is_empty [] = true
is_empty (x ∷ xs) = false

-- K1: an element of a byte-sized array may take no byte. K2: one takes all bytes up to the end, or a field that isn't the
-- last does. At one field K1 comes first.
abbrev pub field_faults : (ℕ → Kind) → Field → Bool → List KindFault
field_faults kinds f last =
    fault_if (is_filled f.extent && nat_eq (element_kind kinds f.element).least 0) (ZeroElement f.place)
    ++ fault_if ((is_filled f.extent && (element_kind kinds f.element).rest) || (not last && (field_kind kinds f.element f.extent).rest)) (RestNotLast f.place)

-- all that is refused, in the order of the text
abbrev pub fields_faults : (ℕ → Kind) → List Field → List KindFault
fields_faults kinds [] = []
fields_faults kinds (f ∷ fs) = field_faults kinds f (is_empty fs) ++ fields_faults kinds fs

abbrev pub cases_faults : (ℕ → Kind) → List Case → List KindFault
cases_faults kinds [] = []
cases_faults kinds (c ∷ cs) = fields_faults kinds c.fields ++ cases_faults kinds cs

abbrev pub default_faults : (ℕ → Kind) → Option (List Field) → List KindFault
default_faults kinds None = []
default_faults kinds (Some fs) = fields_faults kinds fs

abbrev pub body_faults : (ℕ → Kind) → Body → List KindFault
body_faults kinds (Struct fs) = fields_faults kinds fs
body_faults kinds (Casetype switch cases default) = cases_faults kinds cases ++ default_faults kinds default

abbrev pub definitions_faults : (ℕ → Kind) → List TypeDef → List KindFault
definitions_faults kinds [] = []
definitions_faults kinds (d ∷ ds) = body_faults kinds d.body ++ definitions_faults kinds ds

-- the kinds of a module's definitions, and all that is refused of them
abbrev pub kinds_of : Module → ℕ → Kind
kinds_of m = kinds_below m.definitions (length m.definitions)

abbrev pub kind_faults : Module → List KindFault
kind_faults m = definitions_faults (kinds_of m) m.definitions

-- the kinds of the first so many definitions, in their order
abbrev pub kinds_to : List TypeDef → ℕ → List Kind
kinds_to definitions n = map (kinds_below definitions n) (places_from 0 n)

abbrev pub kind_list : Module → List Kind
kind_list m = kinds_to m.definitions (length m.definitions)

abbrev pub first_fault : List KindFault → Option KindFault
first_fault [] = None
first_fault (f ∷ fs) = Some f

-- the error that names a fault
abbrev pub error_of : KindFault → KindError
error_of (ZeroElement span) = ZeroElementAt span
error_of (RestNotLast span) = RestNotLastAt span

-- the error names the first fault, or is want of memory
abbrev pub IsCause : List KindFault → KindError → Type 0
IsCause faults (ZeroElementAt span) = first_fault faults ≡ Some (ZeroElement span)
IsCause faults (RestNotLastAt span) = first_fault faults ≡ Some (RestNotLast span)
IsCause faults NoMemory = Unit {0}
