-- In a formed module without faults of kinds, no definition has one by the kinds of those before it.
use Rattle.std.proofs.Common.{◌≡◌, ℕ, zero, suc, ◌+◌, ◌-◌, ◌<◌, false, ◌&&◌, ◌||◌, List, [], ◌∷◌, ◌++◌, length, refl, sym, ap, ◌∙◌, arith, Option, Some, None, slice_get}
use Rattle.std.specs.Prelude.{nat_eq, not}
use Rattle.std.proofs.lemmas.Option.{none-some}
use Rattle.td_write_spells.specs.Imports.{Kind, Element, Extent, Once, Filling, OnceFilling, UpToZero, Given, Field, Case, Body, Struct, Casetype, TypeDef, ZeroElement, RestNotLast}
use Rattle.td_core.specs.declared.module.Element.TheVariants as element
use Rattle.td_core.specs.Formed.{Bound, IsElementFormed, AreFieldsFormed, AreCasesFormed, IsDefaultFormed, IsBodyFormed, parts_scope, param_bounds, own_bounds}
use Rattle.td_kinds.specs.Kinds.{element_kind, field_kind, kinds_below}
use Rattle.td_kinds.specs.KindRules.{is_filled, fault_if, is_empty, fields_faults, cases_faults, default_faults, body_faults, kinds_of}
use Rattle.td_kinds.proofs.Listing.{below_more}
use Rattle.td_kinds.proofs.Faultless.{faults_at}
use Rattle.td_write_spells.specs.Laws.{KindsAreAdmitted}

module _ (ds : List TypeDef) (n : ℕ) (one two : ℕ → Kind) (same : (j : ℕ) → j < n → one j ≡ two j) where
  element_same : (cells scope : List Bound) (e : Element) → IsElementFormed ds n cells scope e → element_kind one e ≡ element_kind two e
  element_same cells scope (element.Number t) h = refl
  element_same cells scope (element.Listed base k) h = refl
  element_same cells scope (element.Named j args own) h = same j h.0
  element_same cells scope element.Unit h = refl
  element_same cells scope element.Rest h = refl
  element_same cells scope element.Zeros h = refl

  kind_same : (e : Element) (x : Extent) → element_kind one e ≡ element_kind two e → field_kind one e x ≡ field_kind two e x
  kind_same e Once h = h
  kind_same e (Filling size step) h = refl
  kind_same e (OnceFilling size step) h = refl
  kind_same e (UpToZero size) h = ap (λ k. record { least = k.least; most = None; rest = false }) h
  kind_same e (Given source) h = refl

  fields_same : (cells scope : List Bound) (fs : List Field) → AreFieldsFormed ds n cells scope fs → fields_faults one fs ≡ fields_faults two fs
  fields_same cells scope [] h = refl
  fields_same cells scope (f ∷ fs) h =
      let e = element_same cells scope f.element h.0 in
      let k = kind_same f.element f.extent e in
      λ i. (fault_if (is_filled f.extent && nat_eq (e i).least 0) (ZeroElement f.place)
      ++ fault_if ((is_filled f.extent && (e i).rest) || (not (is_empty fs) && (k i).rest)) (RestNotLast f.place))
      ++ fields_same cells (parts_scope f.element f.extent scope f.parts) fs h.1.1.1 i

  cases_same : (cells scope : List Bound) (cs : List Case) → AreCasesFormed ds n cells scope cs → cases_faults one cs ≡ cases_faults two cs
  cases_same cells scope [] h = refl
  cases_same cells scope (c ∷ cs) h = λ i. fields_same cells scope c.fields h.0 i ++ cases_same cells scope cs h.1 i

  default_same : (cells scope : List Bound) (default : Option (List Field)) → IsDefaultFormed ds n cells scope default → default_faults one default ≡ default_faults two default
  default_same cells scope None h = refl
  default_same cells scope (Some fs) h = fields_same cells scope fs h

  body_same : (cells scope : List Bound) (body : Body) → IsBodyFormed ds n cells scope body → body_faults one body ≡ body_faults two body
  body_same cells scope (Struct fs) h = fields_same cells scope fs h
  body_same cells scope (Casetype switch cases default) h = λ i. cases_same cells scope cases h.1.0 i ++ default_same cells scope default h.1.1 i

in_list : (ds : List TypeDef) (n : ℕ) (d : TypeDef) → slice_get ds n ≡ Some d → n < length ds
in_list [] n d e = absurd (none-some d e)
in_list (x ∷ xs) zero d e = omega arith
in_list (x ∷ xs) (suc n) d e = let h = in_list xs n d e in omega (arith, h)

pub kinds_are_admitted : KindsAreAdmitted
kinds_are_admitted m formed faultless n d e =
    let ds = m.definitions in
    let lt : n < length ds = in_list ds n d e in
    let whole : n + (length ds - n) ≡ length ds = omega (arith, lt) in
    let same = λ (j : ℕ) (h : j < n). sym (below_more ds n (length ds - n) j h) ∙ ap (λ k. kinds_below ds k j) whole in
    let formed_here = formed n d e in
    body_same ds n (kinds_below ds n) (kinds_of m) same (own_bounds d) (param_bounds d.params) d.body formed_here.1
    ∙ faults_at (kinds_of m) ds n d faultless e
