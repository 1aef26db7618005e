-- Core fields are no deeper and no heavier than the fields of the tree, where earlier definitions aren't.
use Rattle.std.proofs.Common.{◌≡◌, ℕ, ◌+◌, ◌*◌, ◌≤◌, Bool, true, false, cond, max, List, [], ◌∷◌, ◌++◌, length, map, Option, Some, None, refl, arith, length-append, slice_get}
use Rattle.td_front_facts.specs.Imports.{NumberType, TypeKind, ExtentTree, Bytes, ByteSize, SingleElement, Zeroterm, Bits, Given, OfCell, FieldTree, CaseTree, Element, Field, TypeDef, FlatField, OpenUnit, Meaning, Local, Found, Known, Scope}
use Rattle.td_ast.specs.Trees.{Tree}
use Rattle.td_ast.specs.declared.fields.TypeKind.TheVariants as type
use Rattle.td_names.specs.Names.{looked_up}
use Rattle.td_limits.specs.Excesses.{greatest}
use Rattle.td_limits.specs.Measures.{Measures, type_depth_of, type_weight_of}
use Rattle.td_limits.specs.Nodes as text
use Rattle.td_limits.specs.Depths as depths
use Rattle.td_ast.specs.Extents.{is_array}
use Rattle.td_limits.specs.Weights as weights
use Rattle.td_core.specs.Term.{Term}
use Rattle.td_core.specs.declared.module.Element.TheVariants as element
use Rattle.td_core.specs.declared.module.Extent.{Extent}
use Rattle.td_core.specs.declared.module.Extent.TheVariants.{Once, Filling, OnceFilling, UpToZero, Given as GivenBy}
use Rattle.td_core.specs.declared.module.Source.{Source}
use Rattle.td_core.specs.Weights.{of_named, as_array, fields_depth, cases_depth, default_depth, part_nodes, total, inner_nodes, field_weight, fields_weight, cases_weight, default_weight}
use Rattle.td_elab_rules.specs.declared.known.Meaning.TheVariants as meaning
use Rattle.td_elab_rules.specs.declared.known.Found.TheVariants as found
use Rattle.td_elab_rules.specs.Known.{found_in, local_found, global_found, signature_at}
use Rattle.td_elab_rules.specs.Sorts.{core_of}
use Rattle.td_elab_rules.specs.Types.{args_core, args_cells, args_buffers, buffer_cells, fits, applied, found_element, kind_element}
use Rattle.td_elab_rules.specs.Actions.{stored_cell}
use Rattle.td_elab_rules.specs.Given.{element_number, tree_source, held_source, given_extent}
use Rattle.td_elab_rules.specs.Extents.{zero_ended, extent_core}
use Rattle.td_elab_rules.specs.BitFields.{fits_room, unit_bits, part_of, whole_field, new_unit, room_of, grown, closed, bit_field, gathered}
use Rattle.td_elab_rules.specs.Fields.{with_field, flat_of, flats_of, fields_core}
use Rattle.td_elab_rules.specs.Casetypes.{cases_core, default_core}
use Rattle.td_front_facts.proofs.Fields.{sum_total, total_append, all_cost, flat_inner, flat_nodes}

-- ---- arrays

as_array_le : (e : Extent) (a b : ℕ) → a ≤ b → as_array e a ≤ as_array e b
as_array_le Once a b le = le
as_array_le (Filling size step) a b le = omega (arith, le)
as_array_le (OnceFilling size step) a b le = omega (arith, le)
as_array_le (UpToZero size) a b le = omega (arith, le)
as_array_le (GivenBy source) a b le = le

as_array_more : (e : Extent) (a : ℕ) → a ≤ as_array e a
as_array_more Once a = omega arith
as_array_more (Filling size step) a = omega arith
as_array_more (OnceFilling size step) a = omega arith
as_array_more (UpToZero size) a = omega arith
as_array_more (GivenBy source) a = omega arith

zero_array : (x : Element) (e : Term) (a b : ℕ) → a ≤ b → as_array (zero_ended x e) a ≤ 2 * b + 64
zero_array (element.Number t) e a b le = omega (arith, le)
zero_array (element.Listed t v) e a b le = omega (arith, le)
zero_array (element.Named j es cells) e a b le = omega (arith, le)
zero_array element.Unit e a b le = omega (arith, le)
zero_array element.Rest e a b le = omega (arith, le)
zero_array element.Zeros e a b le = omega (arith, le)

given_array : (o : Option Source) (a b : ℕ) → a ≤ b → as_array (given_extent o) a ≤ b
given_array None a b le = le
given_array (Some source) a b le = le

core_array : (k : Known) (s : Scope) (x : Element) (o : Option ExtentTree) (a b : ℕ) → a ≤ b → as_array (extent_core k s x o) a ≤ weights.in_array (is_array o) b
core_array k s x None a b le = le
core_array k s x (Some (Bytes e)) a b le = omega (arith, le)
core_array k s x (Some (ByteSize e)) a b le = omega (arith, le)
core_array k s x (Some (SingleElement e)) a b le = omega (arith, le)
core_array k s x (Some (Zeroterm e)) a b le = zero_array x (core_of k s e) a b le
core_array k s x (Some (Bits n)) a b le = le
core_array k s x (Some (Given e)) a b le = given_array (tree_source k s (element_number x) e) a b le
core_array k s x (Some (OfCell star p)) a b le = given_array (held_source (element_number x) (stored_cell k s p)) a b le

-- ---- what a name at a type's place takes

found_type : (o : Option Local) (p : Option Meaning) (j : ℕ) → local_found o (global_found p) ≡ found.Global (meaning.Type j) → p ≡ Some (meaning.Type j)
found_type None None j e = absurd cc
found_type None (Some m) j e = cc
found_type (Some l) p j e = absurd cc

module _ (k : Known) (earlier : ℕ → ℕ) (most : List ℕ → ℕ) (link : (n : List ℕ) (j : ℕ) → looked_up k.globals n ≡ Some (meaning.Type j) → earlier j ≤ most n) where
  applied_takes : (s : Scope) (j : ℕ) (o : Option TypeDef) (es : List Term) (cells ns : List ℕ) → of_named earlier (applied s j o es cells ns) ≤ earlier j
  applied_takes s j None es cells ns = omega arith
  applied_takes s j (Some d) es cells ns = by (fits s d es cells ns)
    where
      by : (b : Bool) → of_named earlier (cond b (element.Named j es (cells ++ buffer_cells (length s.cells) ns)) element.Unit) ≤ earlier j
      by true = omega arith
      by false = omega arith

  named_takes : (s : Scope) (n : List ℕ) (f : Found) (args : List Tree) → found_in k s n ≡ f → of_named earlier (found_element k s f args) ≤ most n
  named_takes s n (found.Global (meaning.Number t)) args e = omega arith
  named_takes s n (found.Global (meaning.Enum t v)) args e = omega arith
  named_takes s n (found.Global (meaning.Type j)) args e =
      let ps = signature_at k j in
      omega (
        arith,
        applied_takes s j (slice_get k.definitions j) (args_core k s ps args) (args_cells k s ps args) (args_buffers k s ps args),
        link n j (found_type (looked_up s.locals n) (looked_up k.globals n) j e),
      )
  named_takes s n (found.Global (meaning.Constant m)) args e = omega arith
  named_takes s n (found.Global (meaning.Member m)) args e = omega arith
  named_takes s n (found.Global (meaning.Record r)) args e = omega arith
  named_takes s n (found.Local l) args e = omega arith
  named_takes s n found.Nothing args e = omega arith

  abbrev pub taken : TypeKind → ℕ
  taken (type.Number t) = 0
  taken type.Unit = 0
  taken type.AllBytes = 0
  taken type.AllZeros = 0
  taken (type.Named n args) = most n

  kind_takes : (s : Scope) (t : TypeKind) → of_named earlier (kind_element k s t) ≤ taken t
  kind_takes s (type.Number t) = omega arith
  kind_takes s type.Unit = omega arith
  kind_takes s type.AllBytes = omega arith
  kind_takes s type.AllZeros = omega arith
  kind_takes s (type.Named n args) = named_takes s n (found_in k s n) args refl

  -- ---- depth

  abbrev deepest : List FlatField → ℕ
  deepest [] = 0
  deepest (x ∷ xs) = max (of_named earlier x.element) (deepest xs)

  depth_append : (xs ys : List Field) → fields_depth earlier (xs ++ ys) ≡ max (fields_depth earlier xs) (fields_depth earlier ys)
  depth_append [] ys = omega arith
  depth_append (x ∷ xs) ys = omega (arith, depth_append xs ys)

  closed_depth : (o : Option OpenUnit) → fields_depth earlier (closed o) ≡ 0
  closed_depth None = refl
  closed_depth (Some u) = omega arith

  gathered_depth : (xs : List FlatField) (o : Option OpenUnit) → fields_depth earlier (gathered o xs) ≤ deepest xs
  gathered_depth [] o = omega (arith, closed_depth o)
  gathered_depth (x ∷ xs) o = by (bit_field x.element x.width) (gathered_depth xs)
    where
      by : (b : Option (NumberType × ℕ)) → ((p : Option OpenUnit) → fields_depth earlier (gathered p xs) ≤ deepest xs)
          → fields_depth earlier (elim b [ None ↦ closed o ++ whole_field x ∷ gathered None xs | Some (t, w) ↦ cond (fits_room (room_of o) t w) (gathered (Some (grown o t w x)) xs) (closed o ++ gathered (Some (new_unit t w x)) xs) ]) ≤ max (of_named earlier x.element) (deepest xs)
      by None later = omega (arith, depth_append (closed o) (whole_field x ∷ gathered None xs), closed_depth o, later None)
      by (Some (t, w)) later = check (fits_room (room_of o) t w)
        where
          check : (b : Bool) → fields_depth earlier (cond b (gathered (Some (grown o t w x)) xs) (closed o ++ gathered (Some (new_unit t w x)) xs)) ≤ max (of_named earlier x.element) (deepest xs)
          check true = omega (arith, later (Some (grown o t w x)))
          check false = omega (arith, depth_append (closed o) (gathered (Some (new_unit t w x)) xs), closed_depth o, later (Some (new_unit t w x)))

  -- ---- weight

  abbrev flat_weight : FlatField → ℕ
  flat_weight x = as_array x.extent (32 + (8 * flat_inner x + of_named earlier x.element))

  gathered_weight : (xs : List FlatField) → fields_weight earlier (gathered None xs) ≤ total flat_weight xs
  gathered_weight xs =
      all_cost (field_weight earlier) flat_weight (λ u. 32 * length u.parts + 8 * total part_nodes u.parts)
      (λ x. as_array_le x.extent (32 * 1 + (8 * inner_nodes (whole_field x) + of_named earlier x.element)) (32 + (8 * flat_inner x + of_named earlier x.element)) (omega arith))
      (λ x t w. omega (arith, as_array_more x.extent (32 + (8 * flat_inner x + of_named earlier x.element))))
      (λ u x t w. omega (
        arith,
        as_array_more x.extent (32 + (8 * flat_inner x + of_named earlier x.element)),
        length-append u.parts (part_of (Some (unit_bits u.room.base u.room.filled w)) x ∷ []),
        total_append part_nodes u.parts (part_of (Some (unit_bits u.room.base u.room.filled w)) x ∷ []),
      ))
      (λ u. omega arith)
      xs

module _ (k : Known) (known : Measures) (names : List (List ℕ)) where
  module _ (earlier : ℕ → ℕ) (link : (n : List ℕ) (j : ℕ) → looked_up k.globals n ≡ Some (meaning.Type j) → earlier j ≤ type_depth_of known n) where
    kind_deep : (t : TypeKind) → taken k earlier (type_depth_of known) link t ≤ depths.kind_depth known t
    kind_deep (type.Number t) = omega arith
    kind_deep type.Unit = omega arith
    kind_deep type.AllBytes = omega arith
    kind_deep type.AllZeros = omega arith
    kind_deep (type.Named n args) = omega arith

    flats_deep : (s : Scope) (fs : List FieldTree) → deepest k earlier (type_depth_of known) link (flats_of names k s fs) ≤ depths.fields_depth known fs
    flats_deep s [] = omega arith
    flats_deep s (f ∷ fs) = omega (arith, kind_takes k earlier (type_depth_of known) link s f.type_tree.kind, kind_deep f.type_tree.kind, flats_deep (with_field k s f) fs)

    pub fields_deep : (s : Scope) (fs : List FieldTree) → fields_depth earlier (fields_core names k s fs) ≤ depths.fields_depth known fs
    fields_deep s fs = omega (arith, gathered_depth k earlier (type_depth_of known) link (flats_of names k s fs) None, flats_deep s fs)

    pub cases_deep : (s : Scope) (cs : List CaseTree) → cases_depth earlier (cases_core names k s cs) ≤ greatest (map (depths.case_depth known) cs)
    cases_deep s [] = omega arith
    cases_deep s (c ∷ cs) = omega (arith, fields_deep s c.fields, cases_deep s cs)

    pub default_deep : (s : Scope) (d : Option (List FieldTree)) → default_depth earlier (default_core names k s d) ≤ depths.default_depth known d
    default_deep s None = omega arith
    default_deep s (Some fs) = fields_deep s fs

  module _ (earlier : ℕ → ℕ) (link : (n : List ℕ) (j : ℕ) → looked_up k.globals n ≡ Some (meaning.Type j) → earlier j ≤ type_weight_of known n) where
    kind_heavy : (t : TypeKind) → taken k earlier (type_weight_of known) link t ≤ weights.kind_weight known t
    kind_heavy (type.Number t) = omega arith
    kind_heavy type.Unit = omega arith
    kind_heavy type.AllBytes = omega arith
    kind_heavy type.AllZeros = omega arith
    kind_heavy (type.Named n args) = omega arith

    flat_heavy : (s : Scope) (f : FieldTree) → flat_weight k earlier (type_weight_of known) link (flat_of names k s f) ≤ weights.field_weight known f
    flat_heavy s f =
        let x = flat_of names k s f in
        core_array k s x.element f.extent (32 + (8 * flat_inner x + of_named earlier x.element)) (32 + (8 * text.inner_nodes f + weights.kind_weight known f.type_tree.kind))
        (omega (arith, flat_nodes names k s f, kind_takes k earlier (type_weight_of known) link s f.type_tree.kind, kind_heavy f.type_tree.kind))

    flats_heavy : (s : Scope) (fs : List FieldTree) → total (flat_weight k earlier (type_weight_of known) link) (flats_of names k s fs) ≤ total (weights.field_weight known) fs
    flats_heavy s [] = omega arith
    flats_heavy s (f ∷ fs) = omega (arith, flat_heavy s f, flats_heavy (with_field k s f) fs)

    pub fields_heavy : (s : Scope) (fs : List FieldTree) → fields_weight earlier (fields_core names k s fs) ≤ weights.fields_weight known fs
    fields_heavy s fs = omega (arith, gathered_weight k earlier (type_weight_of known) link (flats_of names k s fs), flats_heavy s fs, sum_total (weights.field_weight known) fs)

    pub cases_heavy : (s : Scope) (cs : List CaseTree) → cases_weight earlier (cases_core names k s cs) ≤ total (weights.case_weight known) cs
    cases_heavy s [] = omega arith
    cases_heavy s (c ∷ cs) = omega (arith, fields_heavy s c.fields, cases_heavy s cs)

    pub default_heavy : (s : Scope) (d : Option (List FieldTree)) → default_weight earlier (default_core names k s d) ≤ weights.default_weight known d
    default_heavy s None = omega arith
    default_heavy s (Some fs) = fields_heavy s fs
