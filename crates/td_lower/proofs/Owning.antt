-- A type that is named stands earlier, and is given as many cells as it has.
use Rattle.std.proofs.Common.{◌≡◌, ℕ, ◌<◌, List, [], ◌∷◌, length, slice_get, Option, Some, None}
use Rattle.td_num.specs.Lists.{Each}
use Rattle.td_lower.specs.Imports.{Element, Number, Listed, Named, Unit as UnitElement, Rest, Zeros, Field, Case, Body, Struct, Casetype, TypeDef}
use Rattle.td_core.specs.Formed.{Bound, own_at, parts_scope, IsElementFormed, AreFieldsFormed, AreCasesFormed, IsDefaultFormed, IsBodyFormed}
use Rattle.td_core.specs.WellFormed.{OfSome, EachField}
use Rattle.td_core.proofs.Found.{cells_mapped}

abbrev pub IsOwned : List TypeDef → ℕ → Element → Type 0
IsOwned ds n (Number type) = Unit {0}
IsOwned ds n (Listed base values) = Unit {0}
IsOwned ds n (Named j args own) = (j < n) × (length own ≡ length (own_at (slice_get ds j)))
IsOwned ds n UnitElement = Unit {0}
IsOwned ds n Rest = Unit {0}
IsOwned ds n Zeros = Unit {0}

module _ (ds : List TypeDef) (n : ℕ) (cells : List Bound) where
  element_owned : (scope : List Bound) (element : Element) → IsElementFormed ds n cells scope element → IsOwned ds n element
  element_owned scope (Number type) h = tt
  element_owned scope (Listed base values) h = tt
  element_owned scope (Named j args own) h = (h.0, cells_mapped cells (own_at (slice_get ds j)) own h.1.1)
  element_owned scope UnitElement h = tt
  element_owned scope Rest h = tt
  element_owned scope Zeros h = tt

  fields_owned : (scope : List Bound) (fs : List Field) → AreFieldsFormed ds n cells scope fs → Each (λ f. IsOwned ds n f.element) fs
  fields_owned scope [] h = tt
  fields_owned scope (f ∷ fs) h = (element_owned scope f.element h.0, fields_owned (parts_scope f.element f.extent scope f.parts) fs h.1.1.1)

  cases_owned : (scope : List Bound) (cs : List Case) → AreCasesFormed ds n cells scope cs → Each (λ c. Each (λ f. IsOwned ds n f.element) c.fields) cs
  cases_owned scope [] h = tt
  cases_owned scope (c ∷ cs) h = (fields_owned scope c.fields h.0, cases_owned scope cs h.1)

  default_owned : (scope : List Bound) (o : Option (List Field)) → IsDefaultFormed ds n cells scope o → OfSome (Each (λ f. IsOwned ds n f.element)) o
  default_owned scope None h = tt
  default_owned scope (Some fs) h = fields_owned scope fs h

  pub body_owned : (scope : List Bound) (b : Body) → IsBodyFormed ds n cells scope b → EachField (λ f. IsOwned ds n f.element) b
  body_owned scope (Struct fs) h = fields_owned scope fs h
  body_owned scope (Casetype e cases o) h = (cases_owned scope cases h.1.0, default_owned scope o h.1.1)
