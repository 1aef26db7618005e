-- The cell maps of a module's code are no longer than an image's: they have a number for each cell and one for each buffer.
use Rattle.std.proofs.Common.{◌≡◌, ℕ, suc, ◌+◌, ◌-◌, ◌/◌, ◌%◌, ◌^◌, ◌<◌, ◌≤◌, Bool, true, false, cond, nat_eq, nat_lt, List, [], ◌∷◌, length, take, drop, Option, Some, None, slice_get, refl, sym, ap, subst, arith, length-append}
use Rattle.std.proofs.lemmas.List.{length-take, length-drop}
use Rattle.td_num.specs.Lists.{Each}
use Rattle.td_image_fits.specs.Imports.{Element, Number, Listed, Named, Unit as UnitElement, Rest, Zeros, Part, Field, Case, Body, Struct, Casetype, TypeDef}
use Rattle.td_core.specs.Formed.{Bound, own_bounds, param_bounds, parts_scope, own_at, AreCellsFormed, IsElementFormed, AreFieldsFormed, AreCasesFormed, IsDefaultFormed, IsBodyFormed, IsDefinitionFormed}
use Rattle.td_core.specs.Copies.{AreOwnGiven, IsElementGiven, IsFieldCopying, IsDefinitionCopying}
use Rattle.td_core.specs.WellFormed.{OfSome, EachField, DefinitionWithin}
use Rattle.td_ir.specs.Tables.{buffer_cells, own_cells}
use Rattle.td_ir.proofs.Buffers.{buffer_count}
use Rattle.td_lower.specs.Tables.{in_map, map_for, own_of, empty_maps, parts_maps, fields_maps, default_maps, cases_maps, body_maps, definition_maps, definitions_maps}
use Rattle.td_lower.proofs.Codes.{there}
use Rattle.td_lower.proofs.Mapping.{map_back}
use Rattle.td_image.specs.Within.{IsSmallMap}
use Rattle.td_num.proofs.Lists.{each_at, each_append}
use Rattle.td_core.proofs.Found.{cells_mapped as map_count, own_count}

some_map : (mapped : List ℕ) → length mapped ≤ 80 → Each (λ n. n < 2 ^ 32) mapped → IsSmallMap mapped
some_map mapped few numbers = record { few = omega (arith, few); numbers = numbers }

no_map : IsSmallMap []
no_map = some_map [] (omega arith) tt

-- ---- how many numbers

-- of a callee with so many cells and buffers
given_few : (d e : TypeDef) (own : List ℕ) → length own ≡ length (own_bounds e) → DefinitionWithin e → AreOwnGiven d (Some e) own → length (map_for (length d.cells) own) ≤ 80
given_few d e own size w given =
    let C = length d.cells in
    let K = length e.cells in
    let mapped = map_for C own in
    let count = own_count e in
    let back : length (own_cells C K mapped) ≡ length own = ap length (map_back d e own (omega (arith, size, count)) given) in
    let both = length-append (take K mapped) (buffer_cells C (drop K mapped)) in
    let front = length-take K mapped in
    let rest = length-drop K mapped in
    let pairs = buffer_count C (drop K mapped) in
    omega (arith, size, count, back, both, front, rest, pairs, w.cells, w.buffers)

-- ---- how great they are

numbers_low : (cells bs : List Bound) (ks : List ℕ) → length cells < 2 ^ 32 → AreCellsFormed cells bs ks → Each (λ n. n < 2 ^ 32) ks
numbers_low cells [] [] few h = tt
numbers_low cells [] (k ∷ ks) few h = absurd h
numbers_low cells (b ∷ bs) [] few h = absurd h
numbers_low cells (b ∷ bs) (k ∷ ks) few h = (let x = there cells k b h.0 in omega (arith, x, few), numbers_low cells bs ks few h.1)

map_low : (C most : ℕ) (ks : List ℕ) → Each (λ n. n < most) ks → Each (λ n. n < most) (map_for C ks)
map_low C most [] h = tt
map_low C most (k ∷ ks) h = by (nat_lt k C) (nat_eq ((k - C) % 2) 0) (map_low C most ks h.1)
  where
    half : (k - C) / 2 < most
    half = (let x = h.0 in omega (arith, x))

    by : (b e : Bool) → Each (λ n. n < most) (map_for C ks) → Each (λ n. n < most) (in_map (cond b (Some k) (cond e (Some ((k - C) / 2)) None)) (map_for C ks))
    by true e r = (h.0, r)
    by false true r = (half, r)
    by false false r = r

-- ---- the maps of a definition

module _ (ds : List TypeDef) (within : Each DefinitionWithin ds) (n : ℕ) (d : TypeDef) (few : length (own_bounds d) < 2 ^ 32) where
  named_small : (j : ℕ) (o : Option TypeDef) (own : List ℕ) → slice_get ds j ≡ o → AreCellsFormed (own_bounds d) (own_at o) own → AreOwnGiven d o own → IsSmallMap (map_for (length d.cells) own)
  named_small j None [] e h given = no_map
  named_small j None (k ∷ ks) e h given = absurd h
  named_small j (Some x) own e h given =
      some_map (map_for (length d.cells) own) (given_few d x own (map_count (own_bounds d) (own_bounds x) own h) (each_at DefinitionWithin ds j x within e) given)
      (map_low (length d.cells) (2 ^ 32) own (numbers_low (own_bounds d) (own_bounds x) own few h))

  own_small : (scope : List Bound) (element : Element) → IsElementFormed ds n (own_bounds d) scope element → IsElementGiven ds d element → IsSmallMap (map_for (length d.cells) (own_of element))
  own_small scope (Number type) h given = no_map
  own_small scope (Listed base v) h given = no_map
  own_small scope (Named j args own) h given = named_small j (slice_get ds j) own refl h.1.1 given
  own_small scope UnitElement h given = no_map
  own_small scope Rest h given = no_map
  own_small scope Zeros h given = no_map

  empty_small : (ps : List Part) → Each IsSmallMap (empty_maps ps)
  empty_small [] = tt
  empty_small (p ∷ ps) = (no_map, empty_small ps)

  parts_small : (scope : List Bound) (element : Element) (ps : List Part) → IsElementFormed ds n (own_bounds d) scope element → IsElementGiven ds d element → Each IsSmallMap (parts_maps (length d.cells) element ps)
  parts_small scope element [] h given = tt
  parts_small scope element (p ∷ ps) h given = (own_small scope element h given, empty_small ps)

  fields_small : (scope : List Bound) (fs : List Field) → AreFieldsFormed ds n (own_bounds d) scope fs → Each (IsFieldCopying ds d) fs → Each IsSmallMap (fields_maps (length d.cells) fs)
  fields_small scope [] h copying = tt
  fields_small scope (f ∷ fs) h copying =
      each_append IsSmallMap (parts_maps (length d.cells) f.element f.parts) (fields_maps (length d.cells) fs) (parts_small scope f.element f.parts h.0 copying.0.element)
      (fields_small (parts_scope f.element f.extent scope f.parts) fs h.1.1.1 copying.1)

  default_small : (scope : List Bound) (o : Option (List Field)) → IsDefaultFormed ds n (own_bounds d) scope o → OfSome (Each (IsFieldCopying ds d)) o → Each IsSmallMap (default_maps (length d.cells) o)
  default_small scope None h copying = tt
  default_small scope (Some fs) h copying = fields_small scope fs h copying

  cases_small : (scope : List Bound) (cs : List Case) (o : Option (List Field)) → AreCasesFormed ds n (own_bounds d) scope cs → IsDefaultFormed ds n (own_bounds d) scope o → Each (λ c. Each (IsFieldCopying ds d) c.fields) cs
      → OfSome (Each (IsFieldCopying ds d)) o → Each IsSmallMap (cases_maps (length d.cells) cs o)
  cases_small scope [] o h g copying copies = default_small scope o g copies
  cases_small scope (c ∷ cs) o h g copying copies =
      each_append IsSmallMap (fields_maps (length d.cells) c.fields) (cases_maps (length d.cells) cs o) (fields_small scope c.fields h.0 copying.0) (cases_small scope cs o h.1 g copying.1 copies)

  body_small : (scope : List Bound) (b : Body) → IsBodyFormed ds n (own_bounds d) scope b → EachField (IsFieldCopying ds d) b → Each IsSmallMap (body_maps (length d.cells) b)
  body_small scope (Struct fs) h copying = fields_small scope fs h copying
  body_small scope (Casetype e cs o) h copying = cases_small scope cs o h.1.0 h.1.1 copying.0 copying.1

  definition_small : IsDefinitionFormed ds n d → IsDefinitionCopying ds d → Each IsSmallMap (definition_maps d)
  definition_small h copying = (no_map, (no_map, body_small (param_bounds d.params) d.body h.1 copying.fields))

-- of the definitions behind these
behind : (ds : List TypeDef) → Each DefinitionWithin ds → Each (IsDefinitionCopying ds) ds → ((n : ℕ) (d : TypeDef) → slice_get ds n ≡ Some d → IsDefinitionFormed ds n d)
    → (k : ℕ) (rest : List TypeDef) → ((n : ℕ) (d : TypeDef) → slice_get rest n ≡ Some d → slice_get ds (k + n) ≡ Some d) → Each IsSmallMap (definitions_maps rest)
behind ds within copying formed k [] at = tt
behind ds within copying formed k (d ∷ rest) at =
    let z : k + 0 ≡ k = omega arith in
    let own : slice_get ds k ≡ Some d = subst (λ m. slice_get ds m ≡ Some d) z (at 0 d refl) in
    let next : (n : ℕ) (x : TypeDef) → slice_get rest n ≡ Some x → slice_get ds (k + 1 + n) ≡ Some x =
    λ n x e. (let y : k + suc n ≡ k + 1 + n = omega arith in subst (λ m. slice_get ds m ≡ Some x) y (at (suc n) x e)) in
    let w = each_at DefinitionWithin ds k d within own in
    let count = own_count d in
    each_append IsSmallMap (definition_maps d) (definitions_maps rest)
    (definition_small ds within k d (omega (arith, count, w.cells, w.buffers)) (formed k d own) (each_at (IsDefinitionCopying ds) ds k d copying own))
    (behind ds within copying formed (k + 1) rest next)

pub maps_small : (ds : List TypeDef) → Each DefinitionWithin ds → Each (IsDefinitionCopying ds) ds → ((n : ℕ) (d : TypeDef) → slice_get ds n ≡ Some d → IsDefinitionFormed ds n d) → Each IsSmallMap (definitions_maps ds)
maps_small ds within copying formed = behind ds within copying formed 0 ds (λ n d e. (let z : 0 + n ≡ n = omega arith in subst (λ m. slice_get ds m ≡ Some d) (sym z) e))
