-- How many bytes the values of a type can take (after EverParse's parser kinds; the caps are an own rule).
use Rattle.std.specs.Prelude.{ℕ, zero, suc, ◌+◌, min, max, Bool, true, false, cond, nat_le, nat_eq, ◌||◌, List, [], ◌∷◌, Option, Some, None, slice_get, slice_index_or}
use Rattle.td_num.specs.Numbers.{bytes_in}
use Rattle.td_core.specs.declared.kind.Kind.{Kind}
use Rattle.td_core.specs.declared.module.Element.{Element}
use Rattle.td_core.specs.declared.module.Element.TheVariants.{Number, Listed, Named, Unit as UnitElement, Rest, Zeros}
use Rattle.td_core.specs.declared.module.Extent.{Extent}
use Rattle.td_core.specs.declared.module.Extent.TheVariants.{Once, Filling, OnceFilling, UpToZero, Given}
use Rattle.td_core.specs.declared.module.Field.{Field}
use Rattle.td_core.specs.declared.module.Case.{Case}
use Rattle.td_core.specs.declared.module.Body.{Body}
use Rattle.td_core.specs.declared.module.Body.TheVariants.{Struct, Casetype}
use Rattle.td_core.specs.declared.module.TypeDef.{TypeDef}
use Rattle.td_expr.specs.Same.{constant_of}
use Rattle.td_kinds.specs.declared.sizes.TheConstants.{SIZE_CAP}

-- Sizes

-- a greatest size, where it is at most a bound
abbrev pub up_to : ℕ → Option ℕ → Option ℕ
up_to bound None = None
up_to bound (Some n) = cond (nat_le n bound) (Some n) None

-- a least size past the cap counts as the cap, a greatest one as none
abbrev pub capped : Kind → Kind
capped k = record { least = min k.least SIZE_CAP; most = up_to SIZE_CAP k.most; rest = k.rest }

abbrev pub exactly : ℕ → Kind
exactly n = record { least = n; most = Some n; rest = false }

-- any number of bytes, from a least one on
abbrev pub at_least : ℕ → Kind
at_least n = record { least = n; most = None; rest = false }

-- all bytes up to the end
abbrev pub all_left : Kind
all_left = record { least = 0; most = None; rest = true }

abbrev pub on_both : (ℕ → ℕ → ℕ) → Option ℕ → Option ℕ → Option ℕ
on_both f None b = None
on_both f (Some a) None = None
on_both f (Some a) (Some b) = Some (f a b)

-- one after the other: sizes are added, and the second decides whether all bytes are taken
abbrev pub joined : Kind → Kind → Kind
joined a b = capped (record { least = a.least + b.least; most = on_both (λ x y. x + y) a.most b.most; rest = b.rest })

-- one or the other: the least least size, the greatest greatest one
abbrev pub spanned : Kind → Kind → Kind
spanned a b = record { least = min a.least b.least; most = on_both max a.most b.most; rest = a.rest || b.rest }

-- Elements and arrays, by the kinds of the definitions

abbrev pub element_kind : (ℕ → Kind) → Element → Kind
element_kind kinds (Number type) = exactly (bytes_in type.width)
element_kind kinds (Listed base values) = exactly (bytes_in base.width)
element_kind kinds (Named definition args cells) = kinds definition
element_kind kinds UnitElement = exactly 0
element_kind kinds Rest = all_left
element_kind kinds Zeros = all_left

-- so many bytes where the size is constant
abbrev pub sized_kind : Option ℕ → Kind
sized_kind None = at_least 0
sized_kind (Some n) = capped (exactly n)

-- an array up to a zero has at least one element; a value that is given takes no bytes
abbrev pub field_kind : (ℕ → Kind) → Element → Extent → Kind
field_kind kinds element Once = element_kind kinds element
field_kind kinds element (Filling size step) = sized_kind (constant_of size)
field_kind kinds element (OnceFilling size step) = sized_kind (constant_of size)
field_kind kinds element (UpToZero size) = at_least (element_kind kinds element).least
field_kind kinds element (Given source) = exactly 0

-- Definitions

-- one field after the other: the last decides whether all bytes are taken
abbrev pub fields_kind : (ℕ → Kind) → List Field → Kind
fields_kind kinds [] = exactly 0
fields_kind kinds (f ∷ []) = field_kind kinds f.element f.extent
fields_kind kinds (f ∷ g ∷ fs) = joined (field_kind kinds f.element f.extent) (fields_kind kinds (g ∷ fs))

abbrev pub default_kind : (ℕ → Kind) → Option (List Field) → Option Kind
default_kind kinds None = None
default_kind kinds (Some fs) = Some (fields_kind kinds fs)

abbrev pub spanned_with : Option Kind → Kind → Kind
spanned_with None k = k
spanned_with (Some j) k = spanned j k

-- the cases' kinds and one more, where there is one
abbrev pub cases_kind : (ℕ → Kind) → Option Kind → List Case → Kind
cases_kind kinds None [] = exactly 0
cases_kind kinds (Some k) [] = k
cases_kind kinds other (c ∷ cs) = cases_kind kinds (Some (spanned_with other (fields_kind kinds c.fields))) cs

abbrev pub body_kind : (ℕ → Kind) → Body → Kind
body_kind kinds (Struct fs) = fields_kind kinds fs
body_kind kinds (Casetype switch cases default) = cases_kind kinds (default_kind kinds default) cases

abbrev pub definition_kind : (ℕ → Kind) → Option TypeDef → Kind
definition_kind kinds None = exactly 0
definition_kind kinds (Some d) = body_kind kinds d.body

abbrev pub pick_kind : Bool → Kind → Kind → Kind
pick_kind true a b = a
pick_kind false a b = b

-- the kinds of the definitions below n, each by those below it; at other places no bytes
unfoldable pub kinds_below : List TypeDef → ℕ → ℕ → Kind
kinds_below definitions zero j = exactly 0
kinds_below definitions (suc n) j =
    pick_kind (nat_eq j n) (definition_kind (kinds_below definitions n) (slice_get definitions n)) (kinds_below definitions n j)

-- the kind at a place of a list of them; past its end no bytes
abbrev pub kind_at : List Kind → ℕ → Kind
kind_at ks j = slice_index_or ks j (exactly 0)

abbrev pub same_size : ℕ → Option ℕ → Option ℕ
same_size least None = None
same_size least (Some most) = cond (nat_eq least most) (Some most) None

-- the size of a type whose values all have one
abbrev pub constant_size : Kind → Option ℕ
constant_size k = same_size k.least k.most
