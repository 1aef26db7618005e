-- What is asked of each field of a module that copies holds, and the cells with which one is opened are small. Cited by other crates.
use Rattle.std.proofs.Common.{◌≡◌, ℕ, zero, suc, ◌+◌, ◌*◌, ◌^◌, ◌<◌, List, [], ◌∷◌, length, replicate, refl, ◌∙◌, arith, Option, Some, None}
use Rattle.std.specs.Prelude.{slice_get}
use Rattle.td_num.specs.Lists.{Each}
use Rattle.td_num.proofs.Lists.{each_at, each_append}
use Rattle.td_meaning.specs.Imports.{Element, Number, Listed, Named, Unit as UnitElement, Rest, Zeros, Field, Case, Body, Struct, Casetype, TypeDef, Module, Entry}
use Rattle.td_core.specs.Entries.{entry_definition}
use Rattle.td_core.specs.Formed.{Bound, param_bounds, own_bounds, own_at, parts_scope, AreCellsFormed, IsElementFormed, AreFieldsFormed, AreCasesFormed, IsDefaultFormed, IsBodyFormed, IsModuleFormed}
use Rattle.td_core.specs.WellFormed.{OfSome, EachField}
use Rattle.td_core.proofs.Found.{cells_mapped, own_count}
use Rattle.td_core.specs.Copies.{IsFieldCopying, IsDefinitionCopying, IsCopying}
use Rattle.td_meaning.specs.Copies.{buffers_at, opened}
use Rattle.td_meaning.proofs.CopiesKept.{IsMapWhole, IsFieldKept}

module _ (ds : List TypeDef) (n : ℕ) (d : TypeDef) where
  map_whole : (scope : List Bound) (element : Element) → IsElementFormed ds n (own_bounds d) scope element → IsMapWhole ds element
  map_whole scope (Number type) h = tt
  map_whole scope (Listed base k) h = tt
  map_whole scope (Named j args own) h = by (slice_get ds j) h.1.1
    where
      by : (o : Option TypeDef) → AreCellsFormed (own_bounds d) (own_at o) own → OfSome (λ e. length own ≡ length e.cells + 2 * length e.buffers) o
      by None g = tt
      by (Some e) g = cells_mapped (own_bounds d) (own_bounds e) own g ∙ own_count e
  map_whole scope UnitElement h = tt
  map_whole scope Rest h = tt
  map_whole scope Zeros h = tt

  fields_whole : (scope : List Bound) (fs : List Field) → AreFieldsFormed ds n (own_bounds d) scope fs → Each (IsFieldCopying ds d) fs → Each (IsFieldKept ds d) fs
  fields_whole scope [] h c = tt
  fields_whole scope (f ∷ fs) h c = (record { copying = c.0; map_whole = map_whole scope f.element h.0 }, fields_whole (parts_scope f.element f.extent scope f.parts) fs h.1.1.1 c.1)

  cases_whole : (scope : List Bound) (cs : List Case) → AreCasesFormed ds n (own_bounds d) scope cs → Each (λ c. Each (IsFieldCopying ds d) c.fields) cs → Each (λ c. Each (IsFieldKept ds d) c.fields) cs
  cases_whole scope [] h c = tt
  cases_whole scope (x ∷ xs) h c = (fields_whole scope x.fields h.0 c.0, cases_whole scope xs h.1 c.1)

  default_whole : (scope : List Bound) (o : Option (List Field)) → IsDefaultFormed ds n (own_bounds d) scope o → OfSome (Each (IsFieldCopying ds d)) o → OfSome (Each (IsFieldKept ds d)) o
  default_whole scope None h c = tt
  default_whole scope (Some fs) h c = fields_whole scope fs h c

  body_whole : (scope : List Bound) (b : Body) → IsBodyFormed ds n (own_bounds d) scope b → EachField (IsFieldCopying ds d) b → EachField (IsFieldKept ds d) b
  body_whole scope (Struct fs) h c = fields_whole scope fs h c
  body_whole scope (Casetype switch cases default) h c = (cases_whole scope cases h.1.0 c.0, default_whole scope default h.1.1 c.1)

pub all_whole : (m : Module) → IsModuleFormed m → IsCopying m → (n : ℕ) → OfSome (λ d. EachField (IsFieldKept m.definitions d) d.body) (slice_get m.definitions n)
all_whole m formed copying n = by (slice_get m.definitions n) refl
  where
    by : (o : Option TypeDef) → slice_get m.definitions n ≡ o → OfSome (λ d. EachField (IsFieldKept m.definitions d) d.body) o
    by None e = tt
    by (Some d) e =
        body_whole m.definitions n d (param_bounds d.params) d.body (formed n d e).1 (each_at (IsDefinitionCopying m.definitions) m.definitions n d copying e).fields

-- the cells of copy buffers begin as zeros
pub opened_small : (m : Module) (entry : Entry) (cells : List ℕ) → Each (λ v. v < 2 ^ 64) cells → Each (λ v. v < 2 ^ 64) (opened m entry cells)
opened_small m entry cells h = each_append (λ v. v < 2 ^ 64) cells (replicate (2 * buffers_at (entry_definition m entry.number)) 0) h (zeros_small (2 * buffers_at (entry_definition m entry.number)))
  where
    zeros_small : (n : ℕ) → Each (λ v. v < 2 ^ 64) (replicate n 0)
    zeros_small zero = tt
    zeros_small (suc n) = (omega arith, zeros_small n)
