-- Core fields have no more nodes, are no deeper and no heavier than the fields of the tree. Cited by other crates.
use Rattle.std.proofs.Common.{◌≡◌, ℕ, ◌+◌, ◌≤◌, Bool, true, false, cond, List, [], ◌∷◌, ◌++◌, length, map, Option, Some, None, refl, arith, length-append, slice_get}
use Rattle.std.specs.List.{sum}
use Rattle.std.proofs.lemmas.List.Sums.{sum_by-cons}
use Rattle.td_front_facts.specs.Imports.{NumberType, TypeKind, ExtentTree, Bytes, ByteSize, SingleElement, Zeroterm, Bits, Given, OfCell, FieldTree, Element, Field, TypeDef, FlatField, OpenUnit, Parameter, Found, Known, Scope}
use Rattle.td_ast.specs.Trees.{Tree, tree_size, span_of}
use Rattle.td_ast.specs.Trees as tree
use Rattle.td_ast.specs.declared.fields.TypeKind.TheVariants as type
use Rattle.td_limits.specs.Nodes as text
use Rattle.td_core.specs.Term.{Term, measure}
use Rattle.td_core.specs.declared.module.Element.TheVariants as element
use Rattle.td_core.specs.declared.module.Part.{Part}
use Rattle.td_core.specs.Weights.{option_nodes, terms_nodes, element_nodes, extent_nodes, part_nodes, action_nodes, total, inner_nodes, fields_nodes}
use Rattle.td_core.specs.declared.module.Source.TheVariants.{Expression, Cell as FromCell, Left}
use Rattle.td_num.specs.Numbers.{bytes_in}
use Rattle.td_elab_rules.specs.declared.actions.Target.{Target}
use Rattle.td_elab_rules.specs.declared.actions.Target.TheVariants as target
use Rattle.td_elab_rules.specs.declared.fields.Readable.{Readable}
use Rattle.td_elab_rules.specs.declared.known.Parameter.TheVariants as parameter
use Rattle.td_elab_rules.specs.declared.known.Meaning.TheVariants as meaning
use Rattle.td_elab_rules.specs.declared.known.Found.TheVariants as found
use Rattle.td_elab_rules.specs.Known.{found_in, signature_at}
use Rattle.td_elab_rules.specs.Sorts.{core_of, option_core}
use Rattle.td_elab_rules.specs.Types.{args_core, args_cells, args_buffers, buffer_cells, fits, applied, found_element, kind_element, element_of}
use Rattle.td_elab_rules.specs.Actions.{stored_cell}
use Rattle.td_elab_rules.specs.Given.{is_left, is_shorter, element_number, tree_source, held_source, given_extent}
use Rattle.td_elab_rules.specs.Extents.{zero_ended, extent_core}
use Rattle.td_elab_rules.specs.BitFields.{fits_room, unit_bits, part_of, whole_field, unit_field, new_unit, more_bits, room_of, grown, closed, bit_field, gathered}
use Rattle.td_elab_rules.specs.Fields.{readable_of, with_field, refinement_core, flat_of, flats_of, fields_core}
use Rattle.td_front_facts.proofs.Expressions.{core_nodes, some_nodes, acted_nodes}

-- ---- sums

pub sum_total : {A : Type 0} (f : A → ℕ) (xs : List A) → sum (map f xs) ≡ total f xs
sum_total f [] = refl
sum_total f (x ∷ xs) = omega (arith, sum_by-cons (λ n. n) (f x) (map f xs), sum_total f xs)

pub total_append : {A : Type 0} (f : A → ℕ) (xs ys : List A) → total f (xs ++ ys) ≡ total f xs + total f ys
total_append f [] ys = omega arith
total_append f (x ∷ xs) ys = omega (arith, total_append f xs ys)

-- ---- elements and extents

args_nodes : (k : Known) (s : Scope) (ps : List Parameter) (es : List Tree) → terms_nodes (args_core k s ps es) ≤ total tree_size es
args_nodes k s [] es = omega arith
args_nodes k s (p ∷ ps) [] = omega arith
args_nodes k s (parameter.Value w ∷ ps) (e ∷ es) = omega (arith, core_nodes k s e, args_nodes k s ps es)
args_nodes k s (parameter.Cells t ∷ ps) (e ∷ es) = omega (arith, args_nodes k s ps es)
args_nodes k s (parameter.Buffer room ∷ ps) (e ∷ es) = omega (arith, args_nodes k s ps es)

applied_nodes : (s : Scope) (j : ℕ) (o : Option TypeDef) (es : List Term) (cells ns : List ℕ) → element_nodes (applied s j o es cells ns) ≤ terms_nodes es
applied_nodes s j None es cells ns = omega arith
applied_nodes s j (Some d) es cells ns = by (fits s d es cells ns)
  where
    by : (b : Bool) → element_nodes (cond b (element.Named j es (cells ++ buffer_cells (length s.cells) ns)) element.Unit) ≤ terms_nodes es
    by true = omega arith
    by false = omega arith

named_nodes : (k : Known) (s : Scope) (f : Found) (args : List Tree) → element_nodes (found_element k s f args) ≤ total tree_size args
named_nodes k s (found.Global (meaning.Number t)) args = omega arith
named_nodes k s (found.Global (meaning.Enum t v)) args = omega arith
named_nodes k s (found.Global (meaning.Type j)) args =
    let ps = signature_at k j in
    omega (arith, applied_nodes s j (slice_get k.definitions j) (args_core k s ps args) (args_cells k s ps args) (args_buffers k s ps args), args_nodes k s ps args)
named_nodes k s (found.Global (meaning.Constant n)) args = omega arith
named_nodes k s (found.Global (meaning.Member n)) args = omega arith
named_nodes k s (found.Global (meaning.Record r)) args = omega arith
named_nodes k s (found.Local l) args = omega arith
named_nodes k s found.Nothing args = omega arith

kind_nodes : (k : Known) (s : Scope) (t : TypeKind) → element_nodes (kind_element k s t) ≤ text.kind_nodes t
kind_nodes k s (type.Number t) = omega arith
kind_nodes k s type.Unit = omega arith
kind_nodes k s type.AllBytes = omega arith
kind_nodes k s type.AllZeros = omega arith
kind_nodes k s (type.Named n args) = omega (arith, named_nodes k s (found_in k s n) args, sum_total tree_size args)

zero_nodes : (x : Element) (e : Term) → extent_nodes (zero_ended x e) ≤ measure e
zero_nodes (element.Number t) e = omega arith
zero_nodes (element.Listed t v) e = omega arith
zero_nodes (element.Named j es cells) e = omega arith
zero_nodes element.Unit e = omega arith
zero_nodes element.Rest e = omega arith
zero_nodes element.Zeros e = omega arith

-- each expression has a node
one_node : (e : Tree) → 1 ≤ tree_size e
one_node (tree.Number at n base) = omega arith
one_node (tree.Truth at b) = omega arith
one_node (tree.Name at n) = omega arith
one_node (tree.FieldPos at own) = omega arith
one_node (tree.Sizeof at own z place) = omega arith
one_node (tree.RangeOkay at z o a) = omega arith
one_node (tree.Unary at op own a) = omega arith
one_node (tree.Binary at op own a b) = omega arith
one_node (tree.Choice at own c a b) = omega arith

tree_nodes : (k : Known) (s : Scope) (o : Option NumberType) (e : Tree) → extent_nodes (given_extent (tree_source k s o e)) ≤ tree_size e
tree_nodes k s None e = omega arith
tree_nodes k s (Some t) e = by (is_left e) (is_shorter (Some t) 4)
  where
    by : (left short : Bool) → extent_nodes (given_extent (cond left (cond short None (Some Left)) (Some (Expression (span_of e) (core_of k s e))))) ≤ tree_size e
    by true true = omega arith
    by true false = one_node e
    by false short = core_nodes k s e

held_nodes : (o : Option NumberType) (c : Target) → extent_nodes (given_extent (held_source o c)) ≡ 0
held_nodes None c = refl
held_nodes (Some t) target.Unknown = refl
held_nodes (Some t) target.NoCell = refl
held_nodes (Some t) (target.Number c u) = by (is_shorter (Some t) (bytes_in u.width))
  where
    by : (short : Bool) → extent_nodes (given_extent (cond short None (Some (FromCell c)))) ≡ 0
    by true = refl
    by false = refl
held_nodes (Some t) (target.Pointer c) = refl

size_nodes : (k : Known) (s : Scope) (x : Element) (o : Option ExtentTree) → extent_nodes (extent_core k s x o) ≤ text.extent_nodes o
size_nodes k s x None = omega arith
size_nodes k s x (Some (Bytes e)) = core_nodes k s e
size_nodes k s x (Some (ByteSize e)) = core_nodes k s e
size_nodes k s x (Some (SingleElement e)) = core_nodes k s e
size_nodes k s x (Some (Zeroterm e)) = omega (arith, zero_nodes x (core_of k s e), core_nodes k s e)
size_nodes k s x (Some (Bits n)) = omega arith
size_nodes k s x (Some (Given e)) = tree_nodes k s (element_number x) e
size_nodes k s x (Some (OfCell star p)) = omega (arith, held_nodes (element_number x) (stored_cell k s p))

-- ---- fields before bit fields are gathered

abbrev pub flat_inner : FlatField → ℕ
flat_inner x = element_nodes x.element + (extent_nodes x.extent + (option_nodes x.refinement + action_nodes x.action))

refined_nodes : (r : Option Readable) (e : Option Term) → option_nodes (refinement_core r e) ≤ option_nodes e
refined_nodes None e = omega arith
refined_nodes (Some v) e = omega arith

pub flat_nodes : (names : List (List ℕ)) (k : Known) (s : Scope) (f : FieldTree) → flat_inner (flat_of names k s f) ≤ text.inner_nodes f
flat_nodes names k s f =
    let t = with_field k s f in
    omega (
      arith,
      kind_nodes k s f.type_tree.kind,
      size_nodes k s (element_of k s f.type_tree) f.extent,
      refined_nodes (readable_of k s f) (option_core k t f.refinement),
      some_nodes k t f.refinement,
      acted_nodes k t f.action,
    )

-- ---- bit fields gathered

-- what a cost of fields comes to, by that of each field before and of a unit so far
module _ (cost : Field → ℕ) (flat : FlatField → ℕ) (unit : OpenUnit → ℕ)
    (alone : (x : FlatField) → cost (whole_field x) ≤ flat x)
    (begins : (x : FlatField) (t : NumberType) (w : ℕ) → unit (new_unit t w x) ≤ flat x)
    (goes_on : (u : OpenUnit) (x : FlatField) (t : NumberType) (w : ℕ) → unit (more_bits u w x) ≤ unit u + flat x)
    (ends : (u : OpenUnit) → cost (unit_field u) ≤ unit u) where
  open_cost : Option OpenUnit → ℕ
  open_cost None = 0
  open_cost (Some u) = unit u

  closed_cost : (o : Option OpenUnit) → total cost (closed o) ≤ open_cost o
  unfolding open_cost
  closed_cost None = omega arith
  closed_cost (Some u) = omega (arith, ends u)

  gathered_cost : (xs : List FlatField) (o : Option OpenUnit) → total cost (gathered o xs) ≤ open_cost o + total flat xs
  unfolding open_cost
  gathered_cost [] o = omega (arith, closed_cost o)
  gathered_cost (x ∷ xs) o = by (bit_field x.element x.width) (gathered_cost xs)
    where
      by : (b : Option (NumberType × ℕ)) → ((p : Option OpenUnit) → total cost (gathered p xs) ≤ open_cost p + total flat xs)
          → total cost (elim b [ None ↦ closed o ++ whole_field x ∷ gathered None xs | Some (t, w) ↦ cond (fits_room (room_of o) t w) (gathered (Some (grown o t w x)) xs) (closed o ++ gathered (Some (new_unit t w x)) xs) ]) ≤ open_cost o + (flat x + total flat xs)
      by None later = omega (arith, total_append cost (closed o) (whole_field x ∷ gathered None xs), closed_cost o, alone x, later None)
      by (Some (t, w)) later = check o (fits_room (room_of o) t w)
        where
          check : (o : Option OpenUnit) (b : Bool) → total cost (cond b (gathered (Some (grown o t w x)) xs) (closed o ++ gathered (Some (new_unit t w x)) xs)) ≤ open_cost o + (flat x + total flat xs)
          check None true = omega (arith, later (Some (new_unit t w x)), begins x t w)
          check (Some u) true = omega (arith, later (Some (more_bits u w x)), goes_on u x t w)
          check o false = omega (arith, total_append cost (closed o) (gathered (Some (new_unit t w x)) xs), closed_cost o, later (Some (new_unit t w x)), begins x t w)

  pub all_cost : (xs : List FlatField) → total cost (gathered None xs) ≤ total flat xs
  unfolding open_cost
  all_cost xs = omega (arith, gathered_cost xs None)

-- how many they are
pub fields_count : (names : List (List ℕ)) (k : Known) (s : Scope) (fs : List FieldTree) → length (fields_core names k s fs) ≤ length fs
fields_count names k s fs =
    omega (
      arith,
      all_cost (λ f. 1) (λ x. 1) (λ u. 1) (λ x. omega arith) (λ x t w. omega arith) (λ u x t w. omega arith) (λ u. omega arith) (flats_of names k s fs),
      counted (fields_core names k s fs),
      flats_count names k s fs,
    )
  where
    counted : {A : Type 0} (xs : List A) → total (λ x. 1) xs ≡ length xs
    counted [] = refl
    counted (x ∷ xs) = omega (arith, counted xs)

    flats_count : (names : List (List ℕ)) (k : Known) (s : Scope) (fs : List FieldTree) → total (λ x. 1) (flats_of names k s fs) ≡ length fs
    flats_count names k s [] = refl
    flats_count names k s (f ∷ fs) = omega (arith, flats_count names k (with_field k s f) fs)

parts_more : (ps : List Part) (p : Part) → total part_nodes (ps ++ p ∷ []) ≡ total part_nodes ps + part_nodes p
parts_more ps p = omega (arith, total_append part_nodes ps (p ∷ []))

flats_nodes : (names : List (List ℕ)) (k : Known) (s : Scope) (fs : List FieldTree) → total (λ x. 1 + flat_inner x) (flats_of names k s fs) ≤ total (λ f. 1 + text.inner_nodes f) fs
flats_nodes names k s [] = omega arith
flats_nodes names k s (f ∷ fs) = omega (arith, flat_nodes names k s f, flats_nodes names k (with_field k s f) fs)

pub fields_nodes_within : (names : List (List ℕ)) (k : Known) (s : Scope) (fs : List FieldTree) → fields_nodes (fields_core names k s fs) ≤ text.fields_nodes fs
fields_nodes_within names k s fs =
    omega (
      arith,
      all_cost (λ f. length f.parts + inner_nodes f) (λ x. 1 + flat_inner x) (λ u. length u.parts + total part_nodes u.parts)
          (λ x. omega arith)
          (λ x t w. omega arith)
          (λ u x t w. omega (arith, length-append u.parts (part_of (Some (unit_bits u.room.base u.room.filled w)) x ∷ []), parts_more u.parts (part_of (Some (unit_bits u.room.base u.room.filled w)) x)))
          (λ u. omega arith)
          (flats_of names k s fs),
      flats_nodes names k s fs,
      sum_total (λ f. 1 + text.inner_nodes f) fs,
    )
