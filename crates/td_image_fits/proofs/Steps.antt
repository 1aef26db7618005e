-- The steps of arrays are at most 2^32: past that a size counts as none.
use Rattle.std.proofs.Common.{◌≡◌, ℕ, zero, suc, ◌+◌, ◌≤◌, max, Bool, true, false, cond, nat_le, nat_eq, List, [], ◌∷◌, refl, arith, Option, Some, None}
use Rattle.std.proofs.lemmas.Bool.{leb-true}
use Rattle.td_num.specs.Numbers.{bytes_in}
use Rattle.td_num.specs.declared.number.Width.{Width}
use Rattle.td_num.specs.declared.number.Width.TheVariants.{One, Two, Four, Eight}
use Rattle.td_num.specs.Lists.{Each}
use Rattle.td_ast.specs.declared.fields.ExtentTree.{ExtentTree}
use Rattle.td_ast.specs.declared.fields.ExtentTree.TheVariants as after_name
use Rattle.td_image_fits.specs.Imports.{FieldTree, CaseTree, Element, Extent, Once, Filling, OnceFilling, UpToZero, Given, Source, Field, Case, Body, Struct, Casetype, Known, Scope}
use Rattle.td_core.specs.declared.kind.Kind.{Kind}
use Rattle.td_core.specs.Term.{Term}
use Rattle.td_core.specs.WellFormed.{OfSome}
use Rattle.td_core.specs.declared.module.Element.TheVariants as element
use Rattle.td_expr.specs.Same.{constant_of}
use Rattle.td_kinds.specs.declared.sizes.TheConstants.{SIZE_CAP}
use Rattle.td_kinds.specs.Kinds.{up_to, on_both, element_kind, sized_kind, field_kind, fields_kind, default_kind, spanned_with, cases_kind, body_kind, same_size, kind_at}
use Rattle.td_elab_rules.specs.Known as known
use Rattle.td_elab_rules.specs.Sorts.{core_of}
use Rattle.td_elab_rules.specs.Types.{element_of}
use Rattle.td_elab_rules.specs.Extents.{step_of, zero_ended, extent_core}
use Rattle.td_elab_rules.specs.Actions.{stored_cell}
use Rattle.td_elab_rules.specs.Given.{element_number, tree_source, held_source, given_extent}
use Rattle.td_elab_rules.specs.Fields.{with_field, flats_of, fields_core}
use Rattle.td_elab_rules.specs.Casetypes.{cases_core, default_core}
use Rattle.td_elab_rules.proofs.Whole.{gathered_each}
use Rattle.td_image_fits.specs.Small.{IsWord, HasSmallStep, IsFieldSmall}

abbrev IsLow : Option ℕ → Type 0
IsLow o = OfSome (λ n. n ≤ SIZE_CAP) o

-- ---- kinds

abbrev pub IsKindLow : Kind → Type 0
IsKindLow k = IsLow k.most

up_to_low : (o : Option ℕ) → IsLow (up_to SIZE_CAP o)
up_to_low None = tt
up_to_low (Some n) = by (nat_le n SIZE_CAP) refl
  where
    by : (b : Bool) → nat_le n SIZE_CAP ≡ b → IsLow (cond b (Some n) None)
    by true e = leb-true n SIZE_CAP e
    by false e = tt

greater_low : (a b : Option ℕ) → IsLow a → IsLow b → IsLow (on_both max a b)
greater_low None b h g = tt
greater_low (Some a) None h g = tt
greater_low (Some a) (Some b) h g = omega (arith, h, g)

bytes_low : (w : Width) → bytes_in w ≤ SIZE_CAP
bytes_low One = omega arith
bytes_low Two = omega arith
bytes_low Four = omega arith
bytes_low Eight = omega arith

sized_low : (o : Option ℕ) → IsKindLow (sized_kind o)
sized_low None = tt
sized_low (Some n) = up_to_low (Some n)

module _ (kinds : ℕ → Kind) (low : (j : ℕ) → IsKindLow (kinds j)) where
  pub element_low : (e : Element) → IsKindLow (element_kind kinds e)
  element_low (element.Number t) = bytes_low t.width
  element_low (element.Listed t v) = bytes_low t.width
  element_low (element.Named j args own) = low j
  element_low element.Unit = omega arith
  element_low element.Rest = tt
  element_low element.Zeros = tt

  field_low : (e : Element) (x : Extent) → IsKindLow (field_kind kinds e x)
  field_low e Once = element_low e
  field_low e (Filling z step) = sized_low (constant_of z)
  field_low e (OnceFilling z step) = sized_low (constant_of z)
  field_low e (UpToZero z) = tt
  field_low e (Given source) = omega arith

  fields_low : (fs : List Field) → IsKindLow (fields_kind kinds fs)
  fields_low [] = omega arith
  fields_low (f ∷ []) = field_low f.element f.extent
  fields_low (f ∷ g ∷ fs) =
      up_to_low (on_both (λ x y. x + y) (field_kind kinds f.element f.extent).most (fields_kind kinds (g ∷ fs)).most)

  default_low : (o : Option (List Field)) → OfSome IsKindLow (default_kind kinds o)
  default_low None = tt
  default_low (Some fs) = fields_low fs

  with_low : (o : Option Kind) (k : Kind) → OfSome IsKindLow o → IsKindLow k → IsKindLow (spanned_with o k)
  with_low None k h g = g
  with_low (Some j) k h g = greater_low j.most k.most h g

  cases_low : (o : Option Kind) (cs : List Case) → OfSome IsKindLow o → IsKindLow (cases_kind kinds o cs)
  cases_low None [] h = omega arith
  cases_low (Some k) [] h = h
  cases_low o (c ∷ cs) h = cases_low (Some (spanned_with o (fields_kind kinds c.fields))) cs (with_low o (fields_kind kinds c.fields) h (fields_low c.fields))

  pub body_low : (b : Body) → IsKindLow (body_kind kinds b)
  body_low (Struct fs) = fields_low fs
  body_low (Casetype e cs o) = cases_low (default_kind kinds o) cs (default_low o)

pub at_low : (ks : List Kind) (j : ℕ) → Each IsKindLow ks → IsKindLow (kind_at ks j)
at_low [] j h = omega arith
at_low (k ∷ ks) zero h = h.0
at_low (k ∷ ks) (suc j) h = at_low ks j h.1

-- ---- steps

same_low : (least : ℕ) (most : Option ℕ) → IsLow most → OfSome IsWord (same_size least most)
same_low least None h = tt
same_low least (Some n) h = by (nat_eq least n)
  where
    by : (b : Bool) → OfSome IsWord (cond b (Some n) None)
    by true = omega (arith, h)
    by false = tt

module _ (names : List (List ℕ)) (k : Known) (low : Each IsKindLow k.kinds) where
  step_small : (e : Element) → OfSome IsWord (step_of k e)
  step_small e =
      let kind = element_kind (known.kind_at k) e in
      same_low kind.least kind.most (element_low (known.kind_at k) (λ j. at_low k.kinds j low) e)

  zero_small : (e : Element) (z : Term) → HasSmallStep (zero_ended e z)
  zero_small (element.Number t) z = tt
  zero_small (element.Listed t v) z = tt
  zero_small (element.Named j es own) z = tt
  zero_small element.Unit z = tt
  zero_small element.Rest z = tt
  zero_small element.Zeros z = tt

  given_small : (o : Option Source) → HasSmallStep (given_extent o)
  given_small None = tt
  given_small (Some source) = tt

  extent_small : (s : Scope) (e : Element) (x : Option ExtentTree) → HasSmallStep (extent_core k s e x)
  extent_small s e None = tt
  extent_small s e (Some (after_name.Bytes z)) = step_small e
  extent_small s e (Some (after_name.ByteSize z)) = step_small e
  extent_small s e (Some (after_name.SingleElement z)) = step_small e
  extent_small s e (Some (after_name.Zeroterm z)) = zero_small e (core_of k s z)
  extent_small s e (Some (after_name.Bits n)) = tt
  extent_small s e (Some (after_name.Given z)) = given_small (tree_source k s (element_number e) z)
  extent_small s e (Some (after_name.OfCell star p)) = given_small (held_source (element_number e) (stored_cell k s p))

  flats_small : (s : Scope) (fs : List FieldTree) → Each (λ x. HasSmallStep x.extent) (flats_of names k s fs)
  flats_small s [] = tt
  flats_small s (f ∷ fs) = (extent_small s (element_of k s f.type_tree) f.extent, flats_small (with_field k s f) fs)

  pub fields_small : (s : Scope) (fs : List FieldTree) → Each IsFieldSmall (fields_core names k s fs)
  fields_small s fs =
      gathered_each IsFieldSmall (λ x. HasSmallStep x.extent) (λ u. Unit {0}) (λ x q. q) (λ x t w q e. tt) (λ u x t w h q e f. tt) (λ u h. tt) (flats_of names k s fs) None tt (flats_small s fs)

  pub cases_small : (s : Scope) (cs : List CaseTree) → Each (λ c. Each IsFieldSmall c.fields) (cases_core names k s cs)
  cases_small s [] = tt
  cases_small s (c ∷ cs) = (fields_small s c.fields, cases_small s cs)

  pub default_small : (s : Scope) (d : Option (List FieldTree)) → OfSome (Each IsFieldSmall) (default_core names k s d)
  default_small s None = tt
  default_small s (Some fs) = fields_small s fs
