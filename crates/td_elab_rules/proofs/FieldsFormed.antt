-- Core fields are formed.
use Rattle.std.proofs.Common.{◌≡◌, ℕ, ◌+◌, ◌-◌, ◌*◌, ◌^◌, ◌<◌, ◌≤◌, Bool, true, false, cond, ◌&&◌, List, [], ◌∷◌, ◌++◌, length, refl, sym, ap, ◌∙◌, subst, arith, Option, Some, None, slice_get, nat_le, nat_lt, nat_eq}
use Rattle.std.proofs.Math.Nat.{pow-le-pow_right}
use Rattle.std.proofs.lemmas.Bool.{leb-true, ltb-true, and_parts, false≢true}
use Rattle.std.proofs.lemmas.Nat.{pow_pos}
use Rattle.std.proofs.lemmas.Option.{slice_get_within}
use Rattle.td_num.specs.Numbers.{bytes_in}
use Rattle.td_elab_rules.specs.Imports.{Width, NumberType, Span, Name, ThirtyTwo, TypeKind, TypeTree, ExtentTree, FieldTree, ActionTree, NameId, Element, Extent, Once, Filling, OnceFilling, UpToZero, Given, CopyOut, Param, Part, Field, TypeDef}
use Rattle.td_ast.specs.Extents.{is_array}
use Rattle.td_ast.specs.declared.fields.TypeKind.TheVariants as type
use Rattle.td_ast.specs.declared.fields.ExtentTree.TheVariants as after
use Rattle.td_ast.specs.Trees.{Tree}
use Rattle.td_core.specs.Term.{Term, Deed}
use Rattle.td_core.specs.declared.module.Element.TheVariants as element
use Rattle.td_core.specs.Types.{bits, limit, type_of}
use Rattle.td_core.specs.Formed.{Bound, scalar_of, whole, param_bounds, bits_bound, part_bound, parts_scope, IsScoped, IsOptionScoped, IsActionFormed, ArePartsFormed, AreArgsFormed, AreCellsFormed, params_at, own_at, IsElementFormed, IsExtentFormed, AreFieldsFormed}
use Rattle.td_elab_rules.specs.declared.fields.Readable.{Readable}
use Rattle.td_elab_rules.specs.declared.fields.FlatField.{FlatField}
use Rattle.td_elab_rules.specs.declared.fields.OpenUnit.{OpenUnit}
use Rattle.td_elab_rules.specs.declared.actions.Target.{Target}
use Rattle.td_elab_rules.specs.declared.actions.Target.TheVariants as target
use Rattle.td_elab_rules.specs.declared.known.Parameter.{Parameter}
use Rattle.td_elab_rules.specs.declared.known.Parameter.TheVariants.{Value, Cells, Buffer as BufferOf}
use Rattle.td_elab_rules.specs.declared.known.Meaning.TheVariants as meaning
use Rattle.td_elab_rules.specs.declared.known.Local.TheVariants as local
use Rattle.td_elab_rules.specs.declared.known.Found.{Found}
use Rattle.td_elab_rules.specs.declared.known.Found.TheVariants as found
use Rattle.td_elab_rules.specs.declared.known.Known.{Known}
use Rattle.td_elab_rules.specs.declared.known.Scope.{Scope}
use Rattle.td_elab_rules.specs.Known.{found_in, signature_at}
use Rattle.td_elab_rules.specs.Sorts.{core_of, option_core}
use Rattle.td_elab_rules.specs.Actions.{stored_cell, action_core}
use Rattle.td_elab_rules.specs.Given.{tree_source, held_source}
use Rattle.td_elab_rules.specs.Types.{same_number, number_found, number_of_kind, args_core, args_cells, args_buffers, fits_params, fits_cells, fits_buffers, fits, buffer_cells, applied, found_element, kind_element, element_of}
use Rattle.td_elab_rules.specs.Extents.{is_width, zero_ended, extent_core, allowed, bit_width}
use Rattle.td_elab_rules.specs.BitFields.{fits_room, unit_bits, part_of, whole_field, new_unit, more_bits, room_of, grown, closed, gathered}
use Rattle.td_elab_rules.specs.Fields.{found_base, base_of, readable_bits, readable_base, readable_of, with_readable, with_field, refinement_core, flat_of, flats_of, fields_core}
use Rattle.td_elab_rules.proofs.Scopes.{bounds_of, room_bounds, own_of, IsScope, get_more, found_there, level_scope, value_scope, whole_small, whole_pos, core_scoped, option_scoped}
use Rattle.td_elab_rules.proofs.DeedsFormed.{IsTargetThere, cell_there, action_formed, action_more}
use Rattle.td_elab_rules.proofs.OwnFormed.{own_formed, width_same}
use Rattle.td_elab_rules.proofs.Given.{given_case, tree_formed, held_formed}
use Rattle.td_expr.proofs.Widths.{limit_of_bytes as limit_is, limit_pos, wide_enough}

-- Types with arguments

abbrev AreScoped : List Bound → List Term → Type 0
AreScoped scope [] = Unit {0}
AreScoped scope (e ∷ es) = IsScoped scope e × AreScoped scope es

args_scoped : (k : Known) (bounds : List Bound) (s : Scope) (ps : List Parameter) (es : List Tree) → IsScope k bounds s → AreScoped bounds (args_core k s ps es)
args_scoped k bounds s [] es h = tt
args_scoped k bounds s (p ∷ ps) [] h = tt
args_scoped k bounds s (Value w ∷ ps) (e ∷ es) h = (core_scoped k bounds s e h, args_scoped k bounds s ps es h)
args_scoped k bounds s (Cells t ∷ ps) (e ∷ es) h = args_scoped k bounds s ps es h
args_scoped k bounds s (BufferOf room ∷ ps) (e ∷ es) h = args_scoped k bounds s ps es h

args_formed : (scope : List Bound) (ps : List Param) (es : List Term) → AreScoped scope es → fits_params ps es ≡ true → AreArgsFormed scope (param_bounds ps) es
args_formed scope [] [] h t = tt
args_formed scope [] (e ∷ es) h t = absurd (false≢true t)
args_formed scope (p ∷ ps) [] h t = absurd (false≢true t)
args_formed scope (p ∷ ps) (e ∷ es) h t =
    let u = and_parts (nat_le (bits (type_of e)) (bits (scalar_of p.width))) (fits_params ps es) t in
    let le = wide_enough (type_of e) (scalar_of p.width) u.0 in
    (h.0, (omega (arith, le, limit_pos (scalar_of p.width)), args_formed scope ps es h.1 u.1))

-- What a field brings into scope

-- as the flat field has it, so many bits of a number aside
abbrev bit_bound : Element → Extent → Option ℕ → Bound
bit_bound (element.Number t) extent (Some w) = part_bound (element.Number t) extent (Some (record { low = 0; width = w }))
bit_bound (element.Number t) extent None = part_bound (element.Number t) extent None
bit_bound (element.Listed t v) extent w = part_bound (element.Listed t v) extent None
bit_bound (element.Named j es cells) extent w = part_bound (element.Named j es cells) extent None
bit_bound element.Unit extent w = part_bound element.Unit extent None
bit_bound element.Rest extent w = part_bound element.Rest extent None
bit_bound element.Zeros extent w = part_bound element.Zeros extent None

bits_small : (width : Width) (w : ℕ) → w ≤ 8 * bytes_in width → 2 ^ w - 1 < limit (scalar_of width)
bits_small width w le =
    let e = limit_is width in
    let p = pow_pos w in
    let q : 2 ^ w ≤ 2 ^ (8 * bytes_in width) = pow-le-pow_right (omega arith) le in
    omega (arith, e, p, q)

bits_pos : (w : ℕ) → 0 < w → 0 < 2 ^ w - 1
bits_pos w h =
    let q : 2 ^ 1 ≤ 2 ^ w = pow-le-pow_right (omega arith) h in
    omega (arith, q)

-- what is readable is what the flat field brings, and it is a number
abbrev IsReadable : Bound → Option Readable → Type 0
IsReadable b None = Unit {0}
IsReadable b (Some v) = (b ≡ record { type = v.scalar; most = v.most }) × (v.most < limit v.scalar) × (0 < v.most)

whole_readable : (t : NumberType) → IsReadable (whole (scalar_of t.width)) (Some (readable_bits t.width None))
whole_readable t = (refl, whole_small (scalar_of t.width), whole_pos (scalar_of t.width))

width_readable : (t : NumberType) (n : ℕ) → IsReadable (bit_bound (element.Number t) Once (allowed (Some t) n)) (readable_base (Some t) (allowed (Some t) n))
width_readable t n = by (is_width (Some t) n) refl
  where
    by : (b : Bool) → is_width (Some t) n ≡ b → IsReadable (bit_bound (element.Number t) Once (cond b (Some n) None)) (readable_base (Some t) (cond b (Some n) None))
    by false e = whole_readable t
    by true e =
        let u = and_parts (nat_lt 0 n) (nat_le n (8 * bytes_in t.width)) e in
        (refl, bits_small t.width n (leb-true n (8 * bytes_in t.width) u.1), bits_pos n (ltb-true 0 n u.0))

-- by what a name stands for
found_once : (k : Known) (s : Scope) (f : Found) (args : List Tree) → IsReadable (bit_bound (found_element k s f args) Once None) (readable_base (found_base f) None)
found_once k s found.Nothing args = tt
found_once k s (found.Local l) args = tt
found_once k s (found.Global (meaning.Constant n)) args = tt
found_once k s (found.Global (meaning.Member n)) args = tt
found_once k s (found.Global (meaning.Number t)) args = whole_readable t
found_once k s (found.Global (meaning.Enum t v)) args = whole_readable t
found_once k s (found.Global (meaning.Type j)) args = tt
found_once k s (found.Global (meaning.Record r)) args = tt

found_bits : (k : Known) (s : Scope) (f : Found) (args : List Tree) (n : ℕ) → IsReadable (bit_bound (found_element k s f args) Once (allowed (number_found f) n)) (readable_base (found_base f) (allowed (number_found f) n))
found_bits k s found.Nothing args n = tt
found_bits k s (found.Local l) args n = tt
found_bits k s (found.Global (meaning.Constant m)) args n = tt
found_bits k s (found.Global (meaning.Member m)) args n = tt
found_bits k s (found.Global (meaning.Number t)) args n = width_readable t n
found_bits k s (found.Global (meaning.Enum t v)) args n = whole_readable t
found_bits k s (found.Global (meaning.Type j)) args n = tt
found_bits k s (found.Global (meaning.Record r)) args n = tt

kind_once : (k : Known) (s : Scope) (t : TypeKind) → IsReadable (bit_bound (kind_element k s t) Once None) (readable_base (base_of k s t) None)
kind_once k s (type.Number t) = whole_readable t
kind_once k s type.Unit = tt
kind_once k s type.AllBytes = tt
kind_once k s type.AllZeros = tt
kind_once k s (type.Named n args) = found_once k s (found_in k s n) args

kind_bits : (k : Known) (s : Scope) (t : TypeKind) (n : ℕ) → IsReadable (bit_bound (kind_element k s t) Once (allowed (number_of_kind k s t) n)) (readable_base (base_of k s t) (allowed (number_of_kind k s t) n))
kind_bits k s (type.Number t) n = width_readable t n
kind_bits k s type.Unit n = tt
kind_bits k s type.AllBytes n = tt
kind_bits k s type.AllZeros n = tt
kind_bits k s (type.Named m args) n = found_bits k s (found_in k s m) args n

extent_readable : (k : Known) (s : Scope) (t : TypeTree) (x : Option ExtentTree) → IsReadable (bit_bound (element_of k s t) (extent_core k s (element_of k s t) x) (bit_width k s t x)) (cond (is_array x) None (readable_base (base_of k s t.kind) (bit_width k s t x)))
extent_readable k s t None = kind_once k s t.kind
extent_readable k s t (Some (after.Bytes e)) = tt
extent_readable k s t (Some (after.ByteSize e)) = tt
extent_readable k s t (Some (after.SingleElement e)) = tt
extent_readable k s t (Some (after.Zeroterm e)) = tt
extent_readable k s t (Some (after.Bits n)) = kind_bits k s t.kind n.value
extent_readable k s t (Some (after.Given e)) =
    given_case (λ y x. IsReadable (bit_bound y x None) (readable_base (base_of k s t.kind) None)) (λ o. tree_source k s o e) refl (λ u x q h. h) (element_of k s t) (kind_once k s t.kind)
extent_readable k s t (Some (after.OfCell star p)) =
    given_case (λ y x. IsReadable (bit_bound y x None) (readable_base (base_of k s t.kind) None)) (λ o. held_source o (stored_cell k s p)) refl (λ u x q h. h) (element_of k s t) (kind_once k s t.kind)

-- what a field brings
abbrev pub field_bound : Known → Scope → FieldTree → Bound
field_bound k s f = bit_bound (element_of k s f.type_tree) (extent_core k s (element_of k s f.type_tree) f.extent) (bit_width k s f.type_tree f.extent)

readable_scope : (k : Known) (bounds : List Bound) (s : Scope) (x : List ℕ) (b : Bound) (v : Option Readable) → IsScope k bounds s → IsReadable b v → IsScope k (bounds ++ b ∷ []) (with_readable s x v)
readable_scope k bounds s x b None h r = level_scope k bounds s x local.Unreadable b h tt
readable_scope k bounds s x b (Some v) h r = subst (λ c. IsScope k (bounds ++ c ∷ []) (with_readable s x (Some v))) (sym r.0) (value_scope k bounds s x (record { type = v.scalar; most = v.most }) h r.1 r.2)

pub field_scope : (k : Known) (bounds : List Bound) (s : Scope) (f : FieldTree) → IsScope k bounds s → IsScope k (bounds ++ field_bound k s f ∷ []) (with_field k s f)
field_scope k bounds s f h = readable_scope k bounds s f.name.text (field_bound k s f) (readable_of k s f) h (extent_readable k s f.type_tree f.extent)

-- Fields before they are gathered

-- where there are bits the field isn't an array
abbrev IsOnceIf : Option ℕ → Extent → Type 0
IsOnceIf None extent = Unit {0}
IsOnceIf (Some w) extent = extent ≡ Once

once_if : (o : Option ℕ) → IsOnceIf o Once
once_if None = tt
once_if (Some w) = refl

extent_once : (k : Known) (s : Scope) (e : Element) (t : TypeTree) (x : Option ExtentTree) → IsOnceIf (bit_width k s t x) (extent_core k s e x)
extent_once k s e t None = tt
extent_once k s e t (Some (after.Bytes size)) = tt
extent_once k s e t (Some (after.ByteSize size)) = tt
extent_once k s e t (Some (after.SingleElement size)) = tt
extent_once k s e t (Some (after.Zeroterm size)) = tt
extent_once k s e t (Some (after.Bits n)) = once_if (bit_width k s t (Some (after.Bits n)))
extent_once k s e t (Some (after.Given z)) = tt
extent_once k s e t (Some (after.OfCell star p)) = tt

zero_formed : (cells bounds : List Bound) (x : Element) (e : Term) → IsScoped bounds e → IsExtentFormed cells bounds x (zero_ended x e)
zero_formed cells bounds (element.Number t) e h = h
zero_formed cells bounds (element.Listed t v) e h = tt
zero_formed cells bounds (element.Named j es own) e h = tt
zero_formed cells bounds element.Unit e h = tt
zero_formed cells bounds element.Rest e h = tt
zero_formed cells bounds element.Zeros e h = tt

target_more : (cells more : List Bound) (c : Target) → IsTargetThere cells c → IsTargetThere (cells ++ more) c
target_more cells more target.Unknown h = tt
target_more cells more target.NoCell h = tt
target_more cells more (target.Number c t) h = get_more cells more c (whole (scalar_of t.width)) h
target_more cells more (target.Pointer c) h = get_more cells more c (whole ThirtyTwo) h

-- `*p` is a cell of the definition
stored_there : (k : Known) (bounds : List Bound) (s : Scope) (p : Name) → IsScope k bounds s → IsTargetThere (own_of s) (stored_cell k s p)
stored_there k bounds s p h =
    target_more (bounds_of s.cells) (room_bounds s.buffers) (stored_cell k s p)
    (cell_there k bounds (bounds_of s.cells) (found_in k s p.text) (found_there k bounds s p.text h))

extent_formed : (k : Known) (bounds : List Bound) (s : Scope) (e : Element) (x : Option ExtentTree) → IsScope k bounds s → IsExtentFormed (own_of s) bounds e (extent_core k s e x)
extent_formed k bounds s e None h = tt
extent_formed k bounds s e (Some (after.Bytes size)) h = core_scoped k bounds s size h
extent_formed k bounds s e (Some (after.ByteSize size)) h = core_scoped k bounds s size h
extent_formed k bounds s e (Some (after.SingleElement size)) h = core_scoped k bounds s size h
extent_formed k bounds s e (Some (after.Zeroterm size)) h = zero_formed (own_of s) bounds e (core_of k s size) (core_scoped k bounds s size h)
extent_formed k bounds s e (Some (after.Bits n)) h = tt
extent_formed k bounds s e (Some (after.Given z)) h =
    given_case (λ y x. IsExtentFormed (own_of s) bounds y x) (λ o. tree_source k s o z) refl
    (λ t x q u. tree_formed k (own_of s) bounds s z h t x q) e tt
extent_formed k bounds s e (Some (after.OfCell star p)) h =
    given_case (λ y x. IsExtentFormed (own_of s) bounds y x) (λ o. held_source o (stored_cell k s p)) refl
    (λ t x q u. held_formed (own_of s) bounds (stored_cell k s p) (stored_there k bounds s p h) t x q) e tt

-- all but what stands once
abbrev IsOther : Extent → Type 0
IsOther Once = ⊥
IsOther (Filling z step) = Unit {0}
IsOther (OnceFilling z step) = Unit {0}
IsOther (UpToZero z) = Unit {0}
IsOther (Given source) = Unit {0}

not_once : (x : Extent) → x ≡ Once → IsOther x → ⊥
not_once x e h = subst IsOther e h

refinement_scoped : (bounds : List Bound) (v : Option Readable) (e : Option Term) → IsOptionScoped bounds e → IsOptionScoped bounds (refinement_core v e)
refinement_scoped bounds None e h = tt
refinement_scoped bounds (Some v) e h = h

pub readable_cells : (s : Scope) (x : List ℕ) (v : Option Readable) → (with_readable s x v).cells ≡ s.cells
readable_cells s x None = refl
readable_cells s x (Some v) = refl

pub readable_buffers : (s : Scope) (x : List ℕ) (v : Option Readable) → (with_readable s x v).buffers ≡ s.buffers
readable_buffers s x None = refl
readable_buffers s x (Some v) = refl

readable_own : (s : Scope) (x : List ℕ) (v : Option Readable) → own_of (with_readable s x v) ≡ own_of s
readable_own s x None = refl
readable_own s x (Some v) = refl

action_own : (k : Known) (bounds : List Bound) (s : Scope) (a : Option ActionTree) → IsScope k bounds s → IsActionFormed (own_of s) bounds (action_core k s a)
action_own k bounds s a h = action_more (bounds_of s.cells) (room_bounds s.buffers) bounds (action_core k s a) (action_formed k bounds s a h)

module _ (all : List TypeDef) (k : Known) (same : (j : ℕ) (d : TypeDef) → slice_get k.definitions j ≡ Some d → slice_get all j ≡ Some d) where
  abbrev n : ℕ
  n = length k.definitions

  applied_formed : (bounds : List Bound) (s : Scope) (j : ℕ) (es : List Term) (own buffers : List ℕ) → AreScoped bounds es → IsElementFormed all n (own_of s) bounds (applied s j (slice_get k.definitions j) es own buffers)
  applied_formed bounds s j es own buffers h = by (slice_get k.definitions j) refl
    where
      by : (o : Option TypeDef) → slice_get k.definitions j ≡ o → IsElementFormed all n (own_of s) bounds (applied s j o es own buffers)
      by None e = tt
      by (Some d) e = check (fits s d es own buffers) refl
        where
          check : (b : Bool) → fits s d es own buffers ≡ b → IsElementFormed all n (own_of s) bounds (cond b (element.Named j es (own ++ buffer_cells (length s.cells) buffers)) element.Unit)
          check false t = tt
          check true t =
              let u = and_parts (fits_params d.params es) (fits_cells s.cells d.cells own && fits_buffers s.buffers d.buffers buffers) t in
              let v = and_parts (fits_cells s.cells d.cells own) (fits_buffers s.buffers d.buffers buffers) u.1 in
              let a : slice_get all j ≡ Some d = same j d e in (
                slice_get_within k.definitions j d e,
                (
                  subst (λ o. AreArgsFormed bounds (params_at o) es) (sym a) (args_formed bounds d.params es h u.0),
                  subst (λ o. AreCellsFormed (own_of s) (own_at o) (own ++ buffer_cells (length s.cells) buffers)) (sym a) (own_formed s d own buffers v.0 v.1),
                ),
              )

  found_formed : (bounds : List Bound) (s : Scope) (f : Found) (args : List Tree) → IsScope k bounds s → IsElementFormed all n (own_of s) bounds (found_element k s f args)
  found_formed bounds s found.Nothing args h = tt
  found_formed bounds s (found.Local l) args h = tt
  found_formed bounds s (found.Global (meaning.Constant m)) args h = tt
  found_formed bounds s (found.Global (meaning.Member m)) args h = tt
  found_formed bounds s (found.Global (meaning.Number t)) args h = tt
  found_formed bounds s (found.Global (meaning.Enum t v)) args h = tt
  found_formed bounds s (found.Global (meaning.Type j)) args h = applied_formed bounds s j (args_core k s (signature_at k j) args) (args_cells k s (signature_at k j) args) (args_buffers k s (signature_at k j) args) (args_scoped k bounds s (signature_at k j) args h)
  found_formed bounds s (found.Global (meaning.Record r)) args h = tt

  kind_formed : (bounds : List Bound) (s : Scope) (t : TypeKind) → IsScope k bounds s → IsElementFormed all n (own_of s) bounds (kind_element k s t)
  kind_formed bounds s (type.Number t) h = tt
  kind_formed bounds s type.Unit h = tt
  kind_formed bounds s type.AllBytes h = tt
  kind_formed bounds s type.AllZeros h = tt
  kind_formed bounds s (type.Named m args) h = found_formed bounds s (found_in k s m) args h

  -- a field before it is gathered, and those after it
  abbrev IsFlatFormed : List Bound → List Bound → FlatField → Type 0
  IsFlatFormed cells scope x =
      IsElementFormed all n cells scope x.element × (IsExtentFormed cells scope x.element x.extent × (IsOnceIf x.width x.extent
      × (IsOptionScoped (scope ++ bit_bound x.element x.extent x.width ∷ []) x.refinement
      × IsActionFormed cells (scope ++ bit_bound x.element x.extent x.width ∷ []) x.action)))

  abbrev AreFlatsFormed : List Bound → List Bound → List FlatField → Type 0
  AreFlatsFormed cells scope [] = Unit {0}
  AreFlatsFormed cells scope (x ∷ xs) = IsFlatFormed cells scope x × AreFlatsFormed cells (scope ++ bit_bound x.element x.extent x.width ∷ []) xs

  flats_formed : (names : List (List ℕ)) (bounds : List Bound) (s : Scope) (fs : List FieldTree) → IsScope k bounds s → AreFlatsFormed (own_of s) bounds (flats_of names k s fs)
  flats_formed names bounds s [] h = tt
  flats_formed names bounds s (f ∷ fs) h =
      let b = field_bound k s f in
      let next = field_scope k bounds s f h in
      let own : own_of (with_field k s f) ≡ own_of s = readable_own s f.name.text (readable_of k s f) in (
        (
          kind_formed bounds s f.type_tree.kind h,
          (
            extent_formed k bounds s (element_of k s f.type_tree) f.extent h,
            (
              extent_once k s (element_of k s f.type_tree) f.type_tree f.extent,
              (
                refinement_scoped (bounds ++ b ∷ []) (readable_of k s f) (option_core k (with_field k s f) f.refinement) (option_scoped k (bounds ++ b ∷ []) (with_field k s f) f.refinement next),
                subst (λ c. IsActionFormed c (bounds ++ b ∷ []) (flat_of names k s f).action) own (action_own k (bounds ++ b ∷ []) (with_field k s f) f.action next),
              ),
            ),
          ),
        ),
        subst (λ c. AreFlatsFormed c (bounds ++ b ∷ []) (flats_of names k (with_field k s f) fs)) own (flats_formed names (bounds ++ b ∷ []) (with_field k s f) fs next),
      )

  -- Units

  -- the parts so far lead from the scope before the unit to the one now
  abbrev IsUnitFormed : List Bound → Option OpenUnit → List Bound → List Bound → Type 0
  IsUnitFormed cells None from scope = from ≡ scope
  IsUnitFormed cells (Some u) from scope = ArePartsFormed cells (element.Number u.room.base) Once from u.parts × (parts_scope (element.Number u.room.base) Once from u.parts ≡ scope)

  parts_more : (cells : List Bound) (e : Element) (extent : Extent) (from : List Bound) (ps : List Part) (p : Part) → ArePartsFormed cells e extent from ps
      → ArePartsFormed cells e extent (parts_scope e extent from ps) (p ∷ []) → ArePartsFormed cells e extent from (ps ++ p ∷ [])
  parts_more cells e extent from [] p h g = g
  parts_more cells e extent from (q ∷ ps) p h g = (h.0, (h.1.0, parts_more cells e extent (from ++ part_bound e extent q.bits ∷ []) ps p h.1.1 g))

  scope_more : (e : Element) (extent : Extent) (from : List Bound) (ps : List Part) (p : Part) → parts_scope e extent from (ps ++ p ∷ []) ≡ parts_scope e extent from ps ++ part_bound e extent p.bits ∷ []
  scope_more e extent from [] p = refl
  scope_more e extent from (q ∷ ps) p = scope_more e extent (from ++ part_bound e extent q.bits ∷ []) ps p

  -- what is closed, and then the rest
  close : (cells : List Bound) (o : Option OpenUnit) (from scope : List Bound) (fs : List Field) → IsUnitFormed cells o from scope → AreFieldsFormed all n cells scope fs → AreFieldsFormed all n cells from (closed o ++ fs)
  close cells None from scope fs e h = subst (λ z. AreFieldsFormed all n cells z fs) (sym e) h
  close cells (Some u) from scope fs e h = (tt, (tt, (e.0, subst (λ z. AreFieldsFormed all n cells z fs) (sym e.1) h)))

  abbrev bits_of : NumberType → ℕ → Bound
  bits_of t w = bits_bound t.width (Some (record { low = 0; width = w }))

  -- the unit with one part more
  grown_formed : (cells : List Bound) (u : OpenUnit) (t : NumberType) (w : ℕ) (x : FlatField) (from scope : List Bound) → IsUnitFormed cells (Some u) from scope → same_number u.room.base t && nat_le (u.room.filled + w) (8 * bytes_in t.width) ≡ true
      → IsOptionScoped (scope ++ bits_of t w ∷ []) x.refinement → IsActionFormed cells (scope ++ bits_of t w ∷ []) x.action
      → IsUnitFormed cells (Some (more_bits u w x)) from (scope ++ bits_of t w ∷ [])
  grown_formed cells u t w x from scope h same_unit r a =
      let b : Bound = bits_of t w in
      let p : Part = part_of (Some (unit_bits u.room.base u.room.filled w)) x in
      let one = and_parts (same_number u.room.base t) (nat_le (u.room.filled + w) (8 * bytes_in t.width)) same_unit in
      let eq : u.room.base.width ≡ t.width = width_same u.room.base.width t.width (and_parts (nat_eq (bytes_in u.room.base.width) (bytes_in t.width)) _ one.0).0 in
      let own : part_bound (element.Number u.room.base) Once p.bits ≡ b = ap (λ y. bits_bound y (Some (record { low = 0; width = w }))) eq in
      let there : parts_scope (element.Number u.room.base) Once from u.parts ++ part_bound (element.Number u.room.base) Once p.bits ∷ [] ≡ scope ++ b ∷ [] = λ i. h.1 i ++ own i ∷ [] in (
        parts_more cells (element.Number u.room.base) Once from u.parts p h.0 (subst (λ z. IsOptionScoped z x.refinement) (sym there) r, (subst (λ z. IsActionFormed cells z x.action) (sym there) a, tt)),
        scope_more (element.Number u.room.base) Once from u.parts p ∙ there,
      )

  new_formed : (cells : List Bound) (t : NumberType) (w : ℕ) (x : FlatField) (scope : List Bound)
      → IsOptionScoped (scope ++ bits_of t w ∷ []) x.refinement → IsActionFormed cells (scope ++ bits_of t w ∷ []) x.action
      → IsUnitFormed cells (Some (new_unit t w x)) scope (scope ++ bits_of t w ∷ [])
  new_formed cells t w x scope r a = ((r, (a, tt)), refl)

  gathered_formed : (cells : List Bound) (xs : List FlatField) (o : Option OpenUnit) (from scope : List Bound) → IsUnitFormed cells o from scope → AreFlatsFormed cells scope xs → AreFieldsFormed all n cells from (gathered o xs)
  gathered_formed cells [] None from scope e h = tt
  gathered_formed cells [] (Some u) from scope e h = (tt, (tt, (e.0, tt)))
  gathered_formed cells (x ∷ xs) o from scope e h =
      by x.element x.extent x.copy x.width x.name x.refinement x.action x.place h.0 (λ p from' next g. gathered_formed cells xs p from' next g) h.1
    where
      After : Element → Extent → Option ℕ → Type 0
      After e extent width = AreFlatsFormed cells (scope ++ bit_bound e extent width ∷ []) xs

      Later : Type 0
      Later = (p : Option OpenUnit) (from' next : List Bound) → IsUnitFormed cells p from' next → AreFlatsFormed cells next xs → AreFieldsFormed all n cells from' (gathered p xs)

      plain : (x : FlatField) → bit_bound x.element x.extent x.width ≡ part_bound x.element x.extent None → IsFlatFormed cells scope x → Later → After x.element x.extent x.width
          → AreFieldsFormed all n cells from (closed o ++ whole_field x ∷ gathered None xs)
      plain x same_bound h later rest =
          let wider = scope ++ bit_bound x.element x.extent x.width ∷ [] in
          let it : scope ++ part_bound x.element x.extent None ∷ [] ≡ wider = λ i. scope ++ sym same_bound i ∷ [] in
          close cells o from scope (whole_field x ∷ gathered None xs) e (
            h.0,
            (
              h.1.0,
              (
                (subst (λ z. IsOptionScoped z x.refinement) (sym it) h.1.1.1.0, (subst (λ z. IsActionFormed cells z x.action) (sym it) h.1.1.1.1, tt)),
                later None (scope ++ part_bound x.element x.extent None ∷ []) wider it rest,
              ),
            ),
          )

      bits_case : (o : Option OpenUnit) → IsUnitFormed cells o from scope → (t : NumberType) (w : ℕ) (x : FlatField)
          → IsOptionScoped (scope ++ bits_of t w ∷ []) x.refinement → IsActionFormed cells (scope ++ bits_of t w ∷ []) x.action
          → Later → AreFlatsFormed cells (scope ++ bits_of t w ∷ []) xs
          → (b : Bool) → fits_room (room_of o) t w ≡ b → AreFieldsFormed all n cells from (cond b (gathered (Some (grown o t w x)) xs) (closed o ++ gathered (Some (new_unit t w x)) xs))
      bits_case None ok t w x r a later rest true fits = absurd (false≢true fits)
      bits_case (Some u) ok t w x r a later rest true fits = later (Some (more_bits u w x)) from (scope ++ bits_of t w ∷ []) (grown_formed cells u t w x from scope ok fits r a) rest
      bits_case o ok t w x r a later rest false fits = close cells o from scope (gathered (Some (new_unit t w x)) xs) ok (later (Some (new_unit t w x)) scope (scope ++ bits_of t w ∷ []) (new_formed cells t w x scope r a) rest)

      by : (y : Element) (extent : Extent) (copy : Option CopyOut) (width : Option ℕ) (m : NameId) (refinement : Option Term) (action : Option Deed) (place : Span)
          → IsFlatFormed cells scope (record { element = y; extent = extent; copy = copy; width = width; name = m; refinement = refinement; action = action; place = place }) → Later → After y extent width
          → AreFieldsFormed all n cells from (gathered o (record { element = y; extent = extent; copy = copy; width = width; name = m; refinement = refinement; action = action; place = place } ∷ xs))
      by (element.Number t) extent copy None m refinement action place h later rest = plain (record { element = element.Number t; extent = extent; copy = copy; width = None; name = m; refinement = refinement; action = action; place = place }) refl h later rest
      by (element.Number t) Once copy (Some w) m refinement action place h later rest =
          bits_case o e t w (record { element = element.Number t; extent = Once; copy = copy; width = Some w; name = m; refinement = refinement; action = action; place = place }) h.1.1.1.0 h.1.1.1.1 later rest (fits_room (room_of o) t w) refl
      by (element.Number t) (Filling z step) copy (Some w) m refinement action place h later rest = absurd (not_once (Filling z step) h.1.1.0 tt)
      by (element.Number t) (OnceFilling z step) copy (Some w) m refinement action place h later rest = absurd (not_once (OnceFilling z step) h.1.1.0 tt)
      by (element.Number t) (UpToZero z) copy (Some w) m refinement action place h later rest = absurd (not_once (UpToZero z) h.1.1.0 tt)
      by (element.Number t) (Given source) copy (Some w) m refinement action place h later rest = absurd (not_once (Given source) h.1.1.0 tt)
      by (element.Listed t v) extent copy width m refinement action place h later rest = plain (record { element = element.Listed t v; extent = extent; copy = copy; width = width; name = m; refinement = refinement; action = action; place = place }) refl h later rest
      by (element.Named j args own) extent copy width m refinement action place h later rest = plain (record { element = element.Named j args own; extent = extent; copy = copy; width = width; name = m; refinement = refinement; action = action; place = place }) refl h later rest
      by element.Unit extent copy width m refinement action place h later rest = plain (record { element = element.Unit; extent = extent; copy = copy; width = width; name = m; refinement = refinement; action = action; place = place }) refl h later rest
      by element.Rest extent copy width m refinement action place h later rest = plain (record { element = element.Rest; extent = extent; copy = copy; width = width; name = m; refinement = refinement; action = action; place = place }) refl h later rest
      by element.Zeros extent copy width m refinement action place h later rest = plain (record { element = element.Zeros; extent = extent; copy = copy; width = width; name = m; refinement = refinement; action = action; place = place }) refl h later rest

  pub fields_formed : (names : List (List ℕ)) (bounds : List Bound) (s : Scope) (fs : List FieldTree) → IsScope k bounds s → AreFieldsFormed all n (own_of s) bounds (fields_core names k s fs)
  fields_formed names bounds s fs h = gathered_formed (own_of s) (flats_of names k s fs) None bounds bounds refl (flats_formed names bounds s fs h)
