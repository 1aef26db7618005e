-- What a field is by what its type's name stands for: its element, its width, and what may be refined. Cited by other crates.
use Rattle.std.proofs.Common.{◌≡◌, ◌⊎◌, inl, inr, ℕ, ◌*◌, ◌<◌, ◌≤◌, Bool, true, false, cond, if◌then◌else◌, List, [], ◌∷◌, ◌++◌, length, refl, subst, Option, Some, None, nat_le, nat_lt, slice_get}
use Rattle.std.proofs.lemmas.Bool.{leb-true, ltb-true, and_parts}
use Rattle.std.proofs.lemmas.Option.{none-some, same_Some}
use Rattle.std.specs.Str.{bytes_eq}
use Rattle.td_num.specs.Numbers.{bytes_in}
use Rattle.td_elab_rules.specs.Imports.{NumberType, TypeKind, TypeTree, ExtentTree, Element, Extent, Once, Filling, OnceFilling, UpToZero, Given, Part, TypeDef}
use Rattle.td_num.specs.Lists.{Each}
use Rattle.td_ast.specs.Extents.{is_array}
use Rattle.td_ast.specs.Trees.{Tree}
use Rattle.td_ast.specs.declared.fields.TypeKind.TheVariants as type
use Rattle.td_ast.specs.declared.fields.ExtentTree.TheVariants as after_name
use Rattle.td_core.specs.Term.{Term}
use Rattle.td_core.specs.declared.module.Element.TheVariants as element
use Rattle.td_core.specs.WellFormed.{IsRefinable, IsOfNumbers, IsEnumThere}
use Rattle.td_names.specs.Names.{looked_up}
use Rattle.td_elab_rules.specs.declared.fields.Readable.{Readable}
use Rattle.td_elab_rules.specs.declared.known.Meaning.{Meaning}
use Rattle.td_elab_rules.specs.declared.known.Meaning.TheVariants as meaning
use Rattle.td_elab_rules.specs.declared.known.Local.{Local}
use Rattle.td_elab_rules.specs.declared.known.Found.{Found}
use Rattle.td_elab_rules.specs.declared.known.Found.TheVariants as found
use Rattle.td_elab_rules.specs.declared.known.Known.{Known}
use Rattle.td_elab_rules.specs.declared.known.Scope.{Scope}
use Rattle.td_elab_rules.specs.Known.{global_found, local_found, found_in, signature_at}
use Rattle.td_elab_rules.specs.Sorts.{core_of}
use Rattle.td_elab_rules.specs.Types.{number_found, number_of_kind, args_core, args_cells, args_buffers, buffer_cells, fits, applied, found_element, kind_element, element_of}
use Rattle.td_elab_rules.specs.Extents.{is_width, zero_ended, extent_core, allowed, bit_width}
use Rattle.td_elab_rules.specs.BitFields.{bit_field}
use Rattle.td_elab_rules.specs.Fields.{found_base, base_of, readable_base}
use Rattle.td_elab_rules.specs.Actions.{stored_cell}
use Rattle.td_elab_rules.specs.Given.{tree_source, held_source}
use Rattle.td_elab_rules.proofs.Given.{given_case}

-- a bit field is no wider than its base, and stands once
abbrev pub IsNarrow : Option (NumberType × ℕ) → Type 0
IsNarrow None = Unit {0}
IsNarrow (Some (t, w)) = (0 < w) × (w ≤ 8 * bytes_in t.width)

-- in a text with so many enums
abbrev pub IsMeaningThere : ℕ → Meaning → Type 0
IsMeaningThere count (meaning.Constant n) = Unit {0}
IsMeaningThere count (meaning.Member n) = Unit {0}
IsMeaningThere count (meaning.Number t) = Unit {0}
IsMeaningThere count (meaning.Enum t v) = v < count
IsMeaningThere count (meaning.Type j) = Unit {0}
IsMeaningThere count (meaning.Record r) = Unit {0}

abbrev pub IsFoundListed : ℕ → Found → Type 0
IsFoundListed count found.Nothing = Unit {0}
IsFoundListed count (found.Local l) = Unit {0}
IsFoundListed count (found.Global m) = IsMeaningThere count m

abbrev pub AreListed : ℕ → List (List ℕ × Meaning) → Type 0
AreListed count globals = Each (λ g. IsMeaningThere count g.1) globals

looked : (count : ℕ) (gs : List (List ℕ × Meaning)) (name : List ℕ) (m : Meaning) → AreListed count gs → looked_up gs name ≡ Some m → IsMeaningThere count m
looked count [] name m h e = absurd (none-some m e)
looked count (g ∷ gs) name m h e = by (looked count gs name m h.1) (bytes_eq name g.0) e
  where
    by : (looked_up gs name ≡ Some m → IsMeaningThere count m) → (b : Bool) → (if b then Some g.1 else looked_up gs name) ≡ Some m → IsMeaningThere count m
    by later true e = subst (IsMeaningThere count) (same_Some g.1 m e) h.0
    by later false e = later e

pub found_listed : (count : ℕ) (k : Known) (s : Scope) (name : List ℕ) → AreListed count k.globals → IsFoundListed count (found_in k s name)
found_listed count k s name h = by (looked_up s.locals name) (looked_up k.globals name) refl
  where
    by : (l : Option Local) (m : Option Meaning) → looked_up k.globals name ≡ m → IsFoundListed count (local_found l (global_found m))
    by (Some l) m e = tt
    by None None e = tt
    by None (Some m) e = looked count k.globals name m h e

applied_listed : (count : ℕ) (s : Scope) (j : ℕ) (o : Option TypeDef) (es : List Term) (own ns : List ℕ) → IsEnumThere count (applied s j o es own ns)
applied_listed count s j None es own ns = tt
applied_listed count s j (Some d) es own ns = by (fits s d es own ns)
  where
    by : (b : Bool) → IsEnumThere count (cond b (element.Named j es (own ++ buffer_cells (length s.cells) ns)) element.Unit)
    by true = tt
    by false = tt

enum_there : (count : ℕ) (k : Known) (s : Scope) (f : Found) (args : List Tree) → IsFoundListed count f → IsEnumThere count (found_element k s f args)
enum_there count k s found.Nothing args h = tt
enum_there count k s (found.Local l) args h = tt
enum_there count k s (found.Global (meaning.Constant n)) args h = tt
enum_there count k s (found.Global (meaning.Member n)) args h = tt
enum_there count k s (found.Global (meaning.Number t)) args h = tt
enum_there count k s (found.Global (meaning.Enum t v)) args h = h
enum_there count k s (found.Global (meaning.Type j)) args h = applied_listed count s j (slice_get k.definitions j) (args_core k s (signature_at k j) args) (args_cells k s (signature_at k j) args) (args_buffers k s (signature_at k j) args)
enum_there count k s (found.Global (meaning.Record r)) args h = tt

pub kind_there : (count : ℕ) (k : Known) (s : Scope) (t : TypeKind) → AreListed count k.globals → IsEnumThere count (kind_element k s t)
kind_there count k s (type.Number t) h = tt
kind_there count k s type.Unit h = tt
kind_there count k s type.AllBytes h = tt
kind_there count k s type.AllZeros h = tt
kind_there count k s (type.Named n args) h = enum_there count k s (found_in k s n) args (found_listed count k s n h)

-- what is refined is a number
abbrev pub IsNumber : Element → Extent → Type 0
IsNumber (element.Number t) Once = Unit {0}
IsNumber (element.Listed t v) Once = Unit {0}
IsNumber (element.Number t) (Given source) = Unit {0}
IsNumber e x = ⊥

abbrev pub IsRead : Element → Extent → Option Readable → Type 0
IsRead e x v = (v ≡ None) ⊎ IsNumber e x

found_read : (k : Known) (s : Scope) (f : Found) (args : List Tree) (w : Option ℕ) → IsRead (found_element k s f args) Once (readable_base (found_base f) w)
found_read k s found.Nothing args w = inl refl
found_read k s (found.Local l) args w = inl refl
found_read k s (found.Global (meaning.Constant n)) args w = inl refl
found_read k s (found.Global (meaning.Member n)) args w = inl refl
found_read k s (found.Global (meaning.Number t)) args w = inr tt
found_read k s (found.Global (meaning.Enum t v)) args w = inr tt
found_read k s (found.Global (meaning.Type j)) args w = inl refl
found_read k s (found.Global (meaning.Record r)) args w = inl refl

kind_read : (k : Known) (s : Scope) (t : TypeKind) (w : Option ℕ) → IsRead (kind_element k s t) Once (readable_base (base_of k s t) w)
kind_read k s (type.Number t) w = inr tt
kind_read k s type.Unit w = inl refl
kind_read k s type.AllBytes w = inl refl
kind_read k s type.AllZeros w = inl refl
kind_read k s (type.Named n args) w = found_read k s (found_in k s n) args w

pub extent_read : (k : Known) (s : Scope) (t : TypeTree) (x : Option ExtentTree) → IsRead (element_of k s t) (extent_core k s (element_of k s t) x) (cond (is_array x) None (readable_base (base_of k s t.kind) (bit_width k s t x)))
extent_read k s t None = kind_read k s t.kind None
extent_read k s t (Some (after_name.Bytes e)) = inl refl
extent_read k s t (Some (after_name.ByteSize e)) = inl refl
extent_read k s t (Some (after_name.SingleElement e)) = inl refl
extent_read k s t (Some (after_name.Zeroterm e)) = inl refl
extent_read k s t (Some (after_name.Bits n)) = kind_read k s t.kind (bit_width k s t (Some (after_name.Bits n)))
extent_read k s t (Some (after_name.Given e)) =
    given_case (λ y x. IsRead y x (readable_base (base_of k s t.kind) None)) (λ o. tree_source k s o e) refl (λ u x q h. inr tt) (element_of k s t) (kind_read k s t.kind None)
extent_read k s t (Some (after_name.OfCell star p)) =
    given_case (λ y x. IsRead y x (readable_base (base_of k s t.kind) None)) (λ o. held_source o (stored_cell k s p)) refl (λ u x q h. inr tt) (element_of k s t) (kind_read k s t.kind None)

pub number_refinable : (e : Element) (x : Extent) (p : Part) → IsNumber e x → IsRefinable e x p
number_refinable (element.Number t) Once p h = tt
number_refinable (element.Listed t v) Once p h = tt
number_refinable (element.Number t) (Filling z step) p h = absurd h
number_refinable (element.Number t) (OnceFilling z step) p h = absurd h
number_refinable (element.Number t) (UpToZero z) p h = absurd h
number_refinable (element.Number t) (Given source) p h = tt
number_refinable (element.Listed t v) (Filling z step) p h = absurd h
number_refinable (element.Listed t v) (OnceFilling z step) p h = absurd h
number_refinable (element.Listed t v) (UpToZero z) p h = absurd h
number_refinable (element.Listed t v) (Given source) p h = absurd h
number_refinable (element.Named j es own) x p h = absurd h
number_refinable element.Unit x p h = absurd h
number_refinable element.Rest x p h = absurd h
number_refinable element.Zeros x p h = absurd h

pub none_refinable : (e : Element) (x : Extent) (p : Part) → p.refinement ≡ None → IsRefinable e x p
none_refinable (element.Number t) Once p h = tt
none_refinable (element.Listed t v) Once p h = tt
none_refinable (element.Number t) (Filling z step) p h = h
none_refinable (element.Number t) (OnceFilling z step) p h = h
none_refinable (element.Number t) (UpToZero z) p h = h
none_refinable (element.Number t) (Given source) p h = tt
none_refinable (element.Listed t v) (Filling z step) p h = h
none_refinable (element.Listed t v) (OnceFilling z step) p h = h
none_refinable (element.Listed t v) (UpToZero z) p h = h
none_refinable (element.Listed t v) (Given source) p h = h
none_refinable (element.Named j es own) x p h = h
none_refinable element.Unit x p h = h
none_refinable element.Rest x p h = h
none_refinable element.Zeros x p h = h

-- an array up to a zero has numbers, and a field without bytes is one
once_numbers : (e : Element) → IsOfNumbers e Once
once_numbers (element.Number t) = tt
once_numbers (element.Listed t v) = tt
once_numbers (element.Named j es own) = tt
once_numbers element.Unit = tt
once_numbers element.Rest = tt
once_numbers element.Zeros = tt

filling_numbers : (e : Element) (z : Term) (step : Option ℕ) → IsOfNumbers e (Filling z step)
filling_numbers (element.Number t) z step = tt
filling_numbers (element.Listed t v) z step = tt
filling_numbers (element.Named j es own) z step = tt
filling_numbers element.Unit z step = tt
filling_numbers element.Rest z step = tt
filling_numbers element.Zeros z step = tt

once_filling_numbers : (e : Element) (z : Term) (step : Option ℕ) → IsOfNumbers e (OnceFilling z step)
once_filling_numbers (element.Number t) z step = tt
once_filling_numbers (element.Listed t v) z step = tt
once_filling_numbers (element.Named j es own) z step = tt
once_filling_numbers element.Unit z step = tt
once_filling_numbers element.Rest z step = tt
once_filling_numbers element.Zeros z step = tt

zero_numbers : (e : Element) (z : Term) → IsOfNumbers e (zero_ended e z)
zero_numbers (element.Number t) z = tt
zero_numbers (element.Listed t v) z = tt
zero_numbers (element.Named j es own) z = tt
zero_numbers element.Unit z = tt
zero_numbers element.Rest z = tt
zero_numbers element.Zeros z = tt

pub extent_numbers : (k : Known) (s : Scope) (e : Element) (x : Option ExtentTree) → IsOfNumbers e (extent_core k s e x)
extent_numbers k s e None = once_numbers e
extent_numbers k s e (Some (after_name.Bytes z)) = filling_numbers e _ _
extent_numbers k s e (Some (after_name.ByteSize z)) = filling_numbers e _ _
extent_numbers k s e (Some (after_name.SingleElement z)) = once_filling_numbers e _ _
extent_numbers k s e (Some (after_name.Zeroterm z)) = zero_numbers e (core_of k s z)
extent_numbers k s e (Some (after_name.Bits n)) = once_numbers e
extent_numbers k s e (Some (after_name.Given z)) = given_case IsOfNumbers (λ o. tree_source k s o z) refl (λ u x q h. tt) e (once_numbers e)
extent_numbers k s e (Some (after_name.OfCell star p)) = given_case IsOfNumbers (λ o. held_source o (stored_cell k s p)) refl (λ u x q h. tt) e (once_numbers e)

-- a bit field is no wider than its base
allowed_narrow : (t : NumberType) (n : ℕ) → IsNarrow (bit_field (element.Number t) (allowed (Some t) n))
allowed_narrow t n = by (is_width (Some t) n) refl
  where
    by : (b : Bool) → is_width (Some t) n ≡ b → IsNarrow (bit_field (element.Number t) (cond b (Some n) None))
    by false e = tt
    by true e = let u = and_parts (nat_lt 0 n) (nat_le n (8 * bytes_in t.width)) e in (ltb-true 0 n u.0, leb-true n (8 * bytes_in t.width) u.1)

applied_narrow : (s : Scope) (j : ℕ) (o : Option TypeDef) (es : List Term) (own ns : List ℕ) (w : Option ℕ) → IsNarrow (bit_field (applied s j o es own ns) w)
applied_narrow s j None es own ns w = tt
applied_narrow s j (Some d) es own ns w = by (fits s d es own ns)
  where
    by : (b : Bool) → IsNarrow (bit_field (cond b (element.Named j es (own ++ buffer_cells (length s.cells) ns)) element.Unit) w)
    by true = tt
    by false = tt

found_narrow : (k : Known) (s : Scope) (f : Found) (args : List Tree) (n : ℕ) → IsNarrow (bit_field (found_element k s f args) (allowed (number_found f) n))
found_narrow k s found.Nothing args n = tt
found_narrow k s (found.Local l) args n = tt
found_narrow k s (found.Global (meaning.Constant m)) args n = tt
found_narrow k s (found.Global (meaning.Member m)) args n = tt
found_narrow k s (found.Global (meaning.Number t)) args n = allowed_narrow t n
found_narrow k s (found.Global (meaning.Enum t v)) args n = tt
found_narrow k s (found.Global (meaning.Type j)) args n = applied_narrow s j (slice_get k.definitions j) (args_core k s (signature_at k j) args) (args_cells k s (signature_at k j) args) (args_buffers k s (signature_at k j) args) None
found_narrow k s (found.Global (meaning.Record r)) args n = tt

kind_narrow : (k : Known) (s : Scope) (t : TypeKind) (n : ℕ) → IsNarrow (bit_field (kind_element k s t) (allowed (number_of_kind k s t) n))
kind_narrow k s (type.Number t) n = allowed_narrow t n
kind_narrow k s type.Unit n = tt
kind_narrow k s type.AllBytes n = tt
kind_narrow k s type.AllZeros n = tt
kind_narrow k s (type.Named m args) n = found_narrow k s (found_in k s m) args n

no_width : (e : Element) → IsNarrow (bit_field e None)
no_width (element.Number t) = tt
no_width (element.Listed t v) = tt
no_width (element.Named j es own) = tt
no_width element.Unit = tt
no_width element.Rest = tt
no_width element.Zeros = tt

pub extent_narrow : (k : Known) (s : Scope) (t : TypeTree) (x : Option ExtentTree) → IsNarrow (bit_field (element_of k s t) (bit_width k s t x))
extent_narrow k s t None = no_width (element_of k s t)
extent_narrow k s t (Some (after_name.Bytes e)) = no_width (element_of k s t)
extent_narrow k s t (Some (after_name.ByteSize e)) = no_width (element_of k s t)
extent_narrow k s t (Some (after_name.SingleElement e)) = no_width (element_of k s t)
extent_narrow k s t (Some (after_name.Zeroterm e)) = no_width (element_of k s t)
extent_narrow k s t (Some (after_name.Bits n)) = kind_narrow k s t.kind n.value
extent_narrow k s t (Some (after_name.Given e)) = no_width (element_of k s t)
extent_narrow k s t (Some (after_name.OfCell star p)) = no_width (element_of k s t)
