-- What lowering rests on: expressions name what is in scope, there are registers enough, and types that are named stand
-- earlier.
use Rattle.std.specs.Prelude.{◌≡◌, ℕ, suc, ◌+◌, ◌<◌, ◌≤◌, true, List, [], ◌∷◌, length, Option, Some, None, slice_get}
use Rattle.td_core.specs.Term.{Term, number, name, complement, negation, compute, compare, both, either, choice, range_okay, Deed, done, set, keep, fork, answer, give_up}
use Rattle.td_core.specs.declared.expressions.Scalar.TheVariants.{Truth}
use Rattle.td_lower_blocks.specs.Imports.{Bits, CopyOut, Part, Field, Case, Body, Struct, Casetype, TypeDef, Module, Element, Number, Listed, Named, Unit as UnitElement, Rest, Zeros, Extent, Once, Filling, OnceFilling, UpToZero, Given, Source, Expression, FromCell, Left, Parts}
use Rattle.td_core.specs.Types.{type_of}
use Rattle.td_expr.specs.Sound.{Placed}
use Rattle.td_expr.specs.Same.{constant_of}
use Rattle.td_meaning.specs.Naming.{is_needed}
use Rattle.td_core.specs.Sizes.{IsStepOf}
use Rattle.td_ir.specs.Tables.{routine_of}
use Rattle.td_lower_blocks.specs.Constructs.{Expr, Lit, Slot, Binary, Not, Complement, ShiftLeft, Both, Either, Choice, Range}
use Rattle.td_lower_blocks.specs.Lowered.{expr_of, is_read, terms_of}

-- Expressions

-- an expression's value into register t uses registers below a count
abbrev pub Reaches : ℕ → ℕ → Expr → Type 0
Reaches R t (Lit n) = t < R
Reaches R t (Slot place) = (t < R) × (place < R)
Reaches R t (Binary op a b) = (t + 1 < R) × (op ≤ 13) × Reaches R t a × Reaches R (t + 1) b
Reaches R t (Not a) = (t + 1 < R) × Reaches R t a
Reaches R t (Complement mask a) = (t + 1 < R) × Reaches R t a
Reaches R t (ShiftLeft mask a b) = (t + 1 < R) × Reaches R t a × Reaches R (t + 1) b
Reaches R t (Both a b) = (t < R) × Reaches R t a × Reaches R t b
Reaches R t (Either a b) = (t < R) × Reaches R t a × Reaches R t b
Reaches R t (Choice c a b) = (t < R) × Reaches R t c × Reaches R t a × Reaches R t b
Reaches R t (Range size offset access) = (t + 3 < R) × Reaches R t size × Reaches R (t + 1) offset × Reaches R (t + 2) access

-- operands of && and || are truth values (as the types of the language have it)
abbrev pub Truths : Term → Type 0
Truths (number n w) = Unit {0}
Truths (name i w most) = Unit {0}
Truths (complement a) = Truths a
Truths (negation a) = Truths a
Truths (compute op s a b) = Truths a × Truths b
Truths (compare k a b) = Truths a × Truths b
Truths (both a b) = (type_of a ≡ Truth) × ((type_of b ≡ Truth) × (Truths a × Truths b))
Truths (either a b) = (type_of a ≡ Truth) × ((type_of b ≡ Truth) × (Truths a × Truths b))
Truths (choice c a b) = Truths c × (Truths a × Truths b)
Truths (range_okay s o a) = Truths s × (Truths o × Truths a)

-- an expression that may stand where L values are in scope
abbrev pub IsExpr : (R L t : ℕ) → Term → Type 0
IsExpr R L t e = Placed L e × (Truths e × Reaches R t (expr_of e))

abbrev pub DeedPlaced : (R D L t : ℕ) → Deed → Type 0
DeedPlaced R D L t done = Unit {0}
DeedPlaced R D L t (set cell e then) = IsExpr R L t e × DeedPlaced R D L t then
DeedPlaced R D L t (keep cell then) = (L < D) × ((L < R) × DeedPlaced R D (suc L) t then)
DeedPlaced R D L t (fork e one other then) = IsExpr R L t e × (DeedPlaced R D L (t + 1) one × (DeedPlaced R D L (t + 1) other × DeedPlaced R D L t then))
DeedPlaced R D L t (answer e) = IsExpr R L t e
DeedPlaced R D L t give_up = Unit {0}

abbrev pub OptionExpr : (R L t : ℕ) → Option Term → Type 0
OptionExpr R L t None = Unit {0}
OptionExpr R L t (Some e) = IsExpr R L t e

abbrev pub OptionDeed : (R D L t : ℕ) → Option Deed → Type 0
OptionDeed R D L t None = Unit {0}
OptionDeed R D L t (Some d) = (suc L ≤ D) × ((L < R) × DeedPlaced R D (suc L) t d)

-- parts whose first stands at level L; their unit is register t
abbrev pub PartsPlaced : (R D L t : ℕ) → List Part → Type 0
PartsPlaced R D L t [] = Unit {0}
PartsPlaced R D L t (p ∷ ps) = ((suc L ≤ D) × (L < R)) × (OptionExpr R (suc L) (suc t) p.refinement × (OptionDeed R D (suc L) (suc t) p.action × PartsPlaced R D (suc L) t ps))

abbrev pub HasBits : Option Bits → Type 0
HasBits None = ⊥
HasBits (Some b) = Unit {0}

abbrev pub AllBits : List Part → Type 0
AllBits [] = Unit {0}
AllBits (p ∷ ps) = HasBits p.bits × AllBits ps

abbrev pub AloneFrom : Option Bits → List Part → Type 0
AloneFrom None [] = Unit {0}
AloneFrom None (p ∷ ps) = ⊥
AloneFrom (Some b) ps = AllBits ps

-- one part, or bit fields
abbrev pub Alone : List Part → Type 0
Alone [] = Unit {0}
Alone (p ∷ ps) = AloneFrom p.bits ps

-- arguments, from register u on
abbrev pub ArgsPlaced : (R L u : ℕ) → List Term → Type 0
ArgsPlaced R L u [] = Unit {0}
ArgsPlaced R L u (e ∷ es) = IsExpr R L u e × ArgsPlaced R L (u + 1) es

-- what stands there, with registers for its arguments
abbrev pub ElementPlaced : (n : ℕ) (params : ℕ → ℕ) (R L u : ℕ) → Element → Type 0
ElementPlaced n params R L u (Number type) = Unit {0}
ElementPlaced n params R L u (Listed base v) = u < R
ElementPlaced n params R L u (Named d args own) = (d < n) × ((params d ≡ length args) × ArgsPlaced R L u args)
ElementPlaced n params R L u UnitElement = Unit {0}
ElementPlaced n params R L u Rest = Unit {0}
ElementPlaced n params R L u Zeros = Unit {0}

-- a size in a register, or a constant one
abbrev pub SizePlaced : (R L u : ℕ) → Term → Option ℕ → Type 0
SizePlaced R L u size None = IsExpr R L u size
SizePlaced R L u size (Some m) = Unit {0}

-- elements of an array: at least one byte each (K1)
abbrev pub ElementsPlaced : (n : ℕ) (params : ℕ → ℕ) (R L t : ℕ) → Element → Type 0
ElementsPlaced n params R L t (Number type) = Unit {0}
ElementsPlaced n params R L t (Listed base v) = Unit {0}
ElementsPlaced n params R L t (Named d args own) = (d < n) × ((params d ≡ length args) × ArgsPlaced R L (suc t) args)
ElementsPlaced n params R L t UnitElement = ⊥
ElementsPlaced n params R L t Rest = ⊥
ElementsPlaced n params R L t Zeros = ⊥

abbrev pub OnePlaced : (n : ℕ) (params : ℕ → ℕ) (R L t : ℕ) → Element → Type 0
OnePlaced n params R L t (Number type) = Unit {0}
OnePlaced n params R L t (Listed base v) = Unit {0}
OnePlaced n params R L t (Named d args own) = (d < n) × ((params d ≡ length args) × ArgsPlaced R L (suc t) args)
OnePlaced n params R L t UnitElement = Unit {0}
OnePlaced n params R L t Rest = Unit {0}
OnePlaced n params R L t Zeros = Unit {0}

abbrev pub IsNumber : Element → Type 0
IsNumber (Number type) = Unit {0}
IsNumber (Listed base v) = ⊥
IsNumber (Named d args own) = ⊥
IsNumber UnitElement = ⊥
IsNumber Rest = ⊥
IsNumber Zeros = ⊥

-- what a number without bytes is computed from
abbrev pub SourcePlaced : (R L t : ℕ) → Source → Type 0
SourcePlaced R L t (Expression span e) = IsExpr R L t e
SourcePlaced R L t (FromCell cell) = Unit {0}
SourcePlaced R L t Left = Unit {0}

abbrev pub ShapePlaced : (n : ℕ) (params : ℕ → ℕ) (R L t : ℕ) → Element → Extent → Type 0
ShapePlaced n params R L t element Once = ElementPlaced n params R L (suc t) element
ShapePlaced n params R L t element (Filling size step) =
    (suc (suc t + length (terms_of element)) < R) × (SizePlaced R L (suc t + length (terms_of element)) size (constant_of size) × (ElementsPlaced n params R L t element × IsStepOf element step))
ShapePlaced n params R L t element (OnceFilling size step) =
    (suc (suc t + length (terms_of element)) + 1 < R) × (SizePlaced R L (suc t + length (terms_of element)) size (constant_of size) × (OnePlaced n params R L t element × IsStepOf element step))
ShapePlaced n params R L t element (UpToZero size) = IsExpr R L (suc t) size × IsNumber element
ShapePlaced n params R L t element (Given source) = SourcePlaced R L (suc t) source

-- the size of what is copied, in a register, where it isn't constant; this one is then free
abbrev pub CopyPlaced : (R L t : ℕ) → Extent → Option CopyOut → Type 0
CopyPlaced R L t extent None = Unit {0}
CopyPlaced R L t (Filling size step) (Some c) = IsExpr R L (suc t) size
CopyPlaced R L t Once (Some c) = Unit {0}
CopyPlaced R L t (OnceFilling size step) (Some c) = Unit {0}
CopyPlaced R L t (UpToZero size) (Some c) = Unit {0}
CopyPlaced R L t (Given source) (Some c) = Unit {0}

abbrev pub FieldsPlaced : (n : ℕ) (params : ℕ → ℕ) (R D L t : ℕ) → List Field → Type 0
FieldsPlaced n params R D L t [] = Unit {0}
FieldsPlaced n params R D L t (f ∷ later) =
    (L ≤ D) × ((ShapePlaced n params R L t f.element f.extent × CopyPlaced R L t f.extent f.copy)
    × (PartsPlaced R D L t f.parts × (Alone f.parts
    × ((is_needed L f.parts later ≡ true → is_read f.element f.extent (is_needed L f.parts later) ≡ true) × FieldsPlaced n params R D (length f.parts + L) t later))))

abbrev pub DefaultPlaced : (n : ℕ) (params : ℕ → ℕ) (R D L t : ℕ) → Option (List Field) → Type 0
DefaultPlaced n params R D L t None = Unit {0}
DefaultPlaced n params R D L t (Some fields) = FieldsPlaced n params R D L t fields

abbrev pub CasesPlaced : (n : ℕ) (params : ℕ → ℕ) (R D L t : ℕ) → List Case → Type 0
CasesPlaced n params R D L t [] = Unit {0}
CasesPlaced n params R D L t (c ∷ cs) = FieldsPlaced n params R D L t c.fields × CasesPlaced n params R D L t cs

abbrev pub BodyPlaced : (n : ℕ) (params : ℕ → ℕ) (R D L t : ℕ) → Body → Type 0
BodyPlaced n params R D L t (Struct fields) = FieldsPlaced n params R D L t fields
BodyPlaced n params R D L t (Casetype switch cases default) =
    ((suc t + 1 < R) × IsExpr R L (suc t) switch) × (CasesPlaced n params R D L t cases × DefaultPlaced n params R D L t default)

-- Definitions

abbrev pub count_of : Option TypeDef → ℕ
count_of None = 0
count_of (Some d) = length d.params

-- how many parameters definition n has
abbrev pub params_of : List TypeDef → ℕ → ℕ
params_of ds n = count_of (slice_get ds n)

-- definition n, in R registers with that of a unit at t
pub record IsPlaced (ds : List TypeDef) (n R t : ℕ) (d : TypeDef) : Type 0 where
  pub levels : length d.params ≤ t
  pub room : suc t < R
  pub guard : OptionExpr R (length d.params) (suc t) d.guard
  pub inside : BodyPlaced n (params_of ds) R t (length d.params) t d.body

abbrev pub HasPlaced : (ds : List TypeDef) (n R t : ℕ) → Option TypeDef → Type 0
HasPlaced ds n R t None = ⊥
HasPlaced ds n R t (Some d) = IsPlaced ds n R t d

-- each definition, in the registers of its routine
abbrev pub ArePlaced : Parts → (ℕ → ℕ) → Module → Type 0
ArePlaced c units m = (n : ℕ) → n < length m.definitions → HasPlaced m.definitions n (routine_of c n).registers (units n) (slice_get m.definitions n)
