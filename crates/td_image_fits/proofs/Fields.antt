-- The blocks of a definition: numbers beside those that the verifier bounds have room in the fields of instructions.
use Rattle.std.proofs.Common.{◌≡◌, ℕ, zero, suc, ◌+◌, ◌^◌, ◌<◌, List, [], ◌∷◌, ◌++◌, Bool, true, false, cond, nat_lt, length, Option, Some, None, slice_get, refl, arith}
use Rattle.std.proofs.lemmas.Bool.{ltb-true}
use Rattle.td_num.specs.Lists.{Each}
use Rattle.td_core.specs.declared.expressions.Scalar.TheVariants as scalar
use Rattle.td_core.specs.Term.{Term, Deed}
use Rattle.td_core.specs.Formed.{Bound, whole, part_bound, parts_scope, param_bounds, own_bounds, params_at, IsScoped, IsOptionScoped, IsActionFormed, ArePartsFormed, IsElementFormed, IsSourceFormed, IsExtentFormed, AreFieldsFormed, AreCasesFormed, IsDefaultFormed, IsBodyFormed, IsDefinitionFormed}
use Rattle.td_core.specs.WellFormed.{OfSome, EachField}
use Rattle.td_image_fits.specs.Imports.{Element, Number as NumberElement, Listed as ListedElement, Named as NamedElement, Unit as UnitElement, Rest, Zeros, Extent, Once, Filling, OnceFilling, UpToZero, Given, Source, Expression, FromCell, Left, Bits, CopyOut, Part, Field, Case, Body as BodyDef, Struct as StructDef, Casetype as CasetypeDef, TypeDef}
use Rattle.td_expr.specs.Same.{constant_of}
use Rattle.td_meaning.specs.Naming.{is_needed}
use Rattle.td_meaning.specs.Meaning.{divides, equals}
use Rattle.td_lower_blocks.specs.Block.{Done}
use Rattle.td_lower_blocks.specs.Constructs.{Steps, ByConstant, Never, Inner, Uneven, CopyAll, Body, inner, steps, cases, body}
use Rattle.td_lower_blocks.specs.Lowered.{expr_of, action_of, number_slot, bits_step, test_step, action_step, when, is_read, terms_of, parts_in, parts_steps, once_step, evenly, exactly, each_inner, one_inner, constant_step, filling_step, once_filling_step, up_to_zero_step, source_step, shape_step, copied_step, content_step, fields_steps, last_case, cases_of, body_of, guarded_body, definition_body, arguments}
use Rattle.td_image_fits.specs.Small.{IsWord, HasSmallStep, IsFieldSmall, HasSmallCases}
use Rattle.td_image_fits.proofs.Blocks.{AreRoomy}
use Rattle.td_image_fits.proofs.Values.{IsRoomyExpr, expr_roomy, value_roomy, values_roomy, args_roomy, deed_roomy, acts_roomy}

-- definition n of ds, whose unit of bit fields is register t
module _ (ds : List TypeDef) (n t : ℕ) (few : n < 2 ^ 32) (low : suc t < 2 ^ 16) where
  bits_roomy : (read : Bool) (L : ℕ) (b : Option Bits) (k : Steps) → AreRoomy (steps k) → AreRoomy (steps (when read (bits_step L t b) k))
  bits_roomy false L b k h = h
  bits_roomy true L None k h = h
  bits_roomy true L (Some b) k h = (tt, h)

  test_roomy : (scope : List Bound) (site : ℕ) (o : Option Term) (k : Steps) → IsOptionScoped scope o → AreRoomy (steps k) → AreRoomy (steps (test_step t site o k))
  test_roomy scope site None k f h = h
  test_roomy scope site (Some e) k f h = value_roomy (suc t) (expr_of e) _ (expr_roomy scope e f) (tt, h)

  action_roomy : (cells scope : List Bound) (L site : ℕ) (o : Option Deed) (k : Steps) → IsActionFormed cells scope o → AreRoomy (steps k) → AreRoomy (steps (action_step L t site o k))
  action_roomy cells scope L site None k f h = h
  action_roomy cells scope L site (Some d) k f h =
      (tt, (acts_roomy (suc t) site (action_of (suc (suc L)) d) Done (deed_roomy cells (scope ++ whole scalar.ThirtyTwo ∷ []) (suc (suc L)) d f) tt, h))

  parts_roomy : (cells : List Bound) (element : Element) (extent : Extent) (scope : List Bound) (read : Bool) (site L : ℕ) (ps : List Part) (k : Steps)
      → ArePartsFormed cells element extent scope ps → AreRoomy (steps k) → AreRoomy (steps (parts_steps t read site L ps k))
  parts_roomy cells element extent scope read site L [] k f h = h
  parts_roomy cells element extent scope read site L (p ∷ ps) k f h =
      let inside = scope ++ part_bound element extent p.bits ∷ [] in
      let rest = parts_steps t read (suc site) (suc L) ps k in
      let act = action_step L t site p.action rest in
      bits_roomy read L p.bits (test_step t site p.refinement act) (test_roomy inside site p.refinement act f.0
      (action_roomy cells inside L site p.action rest f.1.0 (parts_roomy cells element extent inside read (suc site) (suc L) ps k f.1.1 h)))

  once_roomy : (cells scope : List Bound) (slot site : ℕ) (needed : Bool) (element : Element) (k : Steps) → IsElementFormed ds n cells scope element → AreRoomy (steps k) → AreRoomy (steps (once_step t element needed slot site k))
  once_roomy cells scope slot site true (NumberElement type) k f h = (tt, h)
  once_roomy cells scope slot site false (NumberElement type) k f h = (tt, h)
  once_roomy cells scope slot site needed (ListedElement base v) k f h = (tt, (tt, (tt, h)))
  once_roomy cells scope slot site needed (NamedElement j args own) k f h =
      values_roomy (suc t) (arguments (NamedElement j args own)) _ (args_roomy scope (params_at (slice_get ds j)) args f.1.0) ((low, omega (arith, few, f.0)), h)
  once_roomy cells scope slot site needed UnitElement k f h = h
  once_roomy cells scope slot site needed Rest k f h = (tt, h)
  once_roomy cells scope slot site needed Zeros k f h = (tt, h)

  each_roomy : (cells scope : List Bound) (element : Element) (u site : ℕ) → IsElementFormed ds n cells scope element → AreRoomy (inner (each_inner t element u site))
  each_roomy cells scope (NumberElement type) u site f = (tt, tt)
  each_roomy cells scope (ListedElement base v) u site f = ((tt, (tt, (tt, tt))), tt)
  each_roomy cells scope (NamedElement j args own) u site f = (((low, omega (arith, few, f.0)), tt), tt)
  each_roomy cells scope UnitElement u site f = tt
  each_roomy cells scope Rest u site f = tt
  each_roomy cells scope Zeros u site f = tt

  one_roomy : (cells scope : List Bound) (element : Element) (u site : ℕ) → IsElementFormed ds n cells scope element → AreRoomy (inner (one_inner t element u site))
  one_roomy cells scope (NumberElement type) u site f = (tt, tt)
  one_roomy cells scope (ListedElement base v) u site f = (tt, (tt, (tt, tt)))
  one_roomy cells scope (NamedElement j args own) u site f = ((low, omega (arith, few, f.0)), tt)
  one_roomy cells scope UnitElement u site f = tt
  one_roomy cells scope Rest u site f = (tt, tt)
  one_roomy cells scope Zeros u site f = (tt, tt)

  evenly_roomy : (step : Option ℕ) (u site : ℕ) (x : Inner) → OfSome IsWord step → AreRoomy (inner x) → AreRoomy (inner (evenly t step u site x))
  evenly_roomy None u site x s h = h
  evenly_roomy (Some zero) u site x s h = h
  evenly_roomy (Some (suc w)) u site x s h = (s, h)

  exactly_roomy : (step : Option ℕ) (u site : ℕ) (x : Inner) → OfSome IsWord step → AreRoomy (inner x) → AreRoomy (inner (exactly t step u site x))
  exactly_roomy None u site x s h = h
  exactly_roomy (Some w) u site x s h = (s, (tt, (tt, h)))

  either_roomy : (b : Bool) (x y : Inner) → AreRoomy (inner x) → AreRoomy (inner y) → AreRoomy (inner (cond b x y))
  either_roomy true x y h g = h
  either_roomy false x y h g = g

  constant_roomy : (size site : ℕ) (x : Inner) (k : Steps) → AreRoomy (inner x) → AreRoomy (steps k) → AreRoomy (steps (constant_step t size site x k))
  constant_roomy size site x k g h = by (nat_lt size (2 ^ 32))
    where
      by : (b : Bool) → AreRoomy (steps (cond b (ByConstant size site x k) (Never site)))
      by true = (tt, (g, h))
      by false = tt

  element_args : (cells scope : List Bound) (element : Element) → IsElementFormed ds n cells scope element → Each IsRoomyExpr (arguments element)
  element_args cells scope (NumberElement type) f = tt
  element_args cells scope (ListedElement base v) f = tt
  element_args cells scope (NamedElement j args own) f = args_roomy scope (params_at (slice_get ds j)) args f.1.0
  element_args cells scope UnitElement f = tt
  element_args cells scope Rest f = tt
  element_args cells scope Zeros f = tt

  filling_roomy : (cells scope : List Bound) (site : ℕ) (o step : Option ℕ) (element : Element) (size : Term) (k : Steps) → IsElementFormed ds n cells scope element → IsScoped scope size → OfSome IsWord step → AreRoomy (steps k)
      → AreRoomy (steps (filling_step t o step element size site k))
  filling_roomy cells scope site None step element size k f e s h =
      let u = suc t + length (terms_of element) in
      values_roomy (suc t) (arguments element) _ (element_args cells scope element f)
      (value_roomy u (expr_of size) _ (expr_roomy scope size e) (tt, (evenly_roomy step u site (each_inner t element (suc u) site) s (each_roomy cells scope element (suc u) site f), h)))
  filling_roomy cells scope site (Some m) step element size k f e s h =
      let u = suc t + length (terms_of element) in
      values_roomy (suc t) (arguments element) _ (element_args cells scope element f)
      (constant_roomy m site (cond (divides step m) (each_inner t element u site) (Uneven site)) k
      (either_roomy (divides step m) (each_inner t element u site) (Uneven site) (each_roomy cells scope element u site f) tt) h)

  once_filling_roomy : (cells scope : List Bound) (site : ℕ) (o step : Option ℕ) (element : Element) (size : Term) (k : Steps) → IsElementFormed ds n cells scope element → IsScoped scope size → OfSome IsWord step → AreRoomy (steps k)
      → AreRoomy (steps (once_filling_step t o step element size site k))
  once_filling_roomy cells scope site None step element size k f e s h =
      let u = suc t + length (terms_of element) in
      values_roomy (suc t) (arguments element) _ (element_args cells scope element f)
      (value_roomy u (expr_of size) _ (expr_roomy scope size e) (tt, (exactly_roomy step u site (one_inner t element (suc u) site) s (one_roomy cells scope element (suc u) site f), h)))
  once_filling_roomy cells scope site (Some m) step element size k f e s h =
      let u = suc t + length (terms_of element) in
      values_roomy (suc t) (arguments element) _ (element_args cells scope element f)
      (constant_roomy m site (cond (equals step m) (one_inner t element u site) (Uneven site)) k
      (either_roomy (equals step m) (one_inner t element u site) (Uneven site) (one_roomy cells scope element u site f) tt) h)

  zero_roomy : (scope : List Bound) (site : ℕ) (element : Element) (size : Term) (k : Steps) → IsScoped scope size → AreRoomy (steps k) → AreRoomy (steps (up_to_zero_step t element size site k))
  zero_roomy scope site (NumberElement type) size k e h = value_roomy (suc t) (expr_of size) _ (expr_roomy scope size e) (tt, h)
  zero_roomy scope site (ListedElement base v) size k e h = tt
  zero_roomy scope site (NamedElement j args own) size k e h = tt
  zero_roomy scope site UnitElement size k e h = tt
  zero_roomy scope site Rest size k e h = tt
  zero_roomy scope site Zeros size k e h = tt

  source_roomy : (cells scope : List Bound) (b : Bound) (source : Source) (slot : ℕ) (k : Steps) → IsSourceFormed cells scope b source → AreRoomy (steps k) → AreRoomy (steps (source_step t source slot k))
  source_roomy cells scope b (Expression span e) slot k s h = value_roomy (suc t) (expr_of e) _ (expr_roomy scope e s) (tt, h)
  source_roomy cells scope b (FromCell cell) slot k s h = (tt, h)
  source_roomy cells scope b Left slot k s h = (tt, h)

  shape_roomy : (cells scope : List Bound) (slot site : ℕ) (needed : Bool) (element : Element) (extent : Extent) (k : Steps) → IsElementFormed ds n cells scope element → IsExtentFormed cells scope element extent → HasSmallStep extent → AreRoomy (steps k)
      → AreRoomy (steps (shape_step t element extent needed slot site k))
  shape_roomy cells scope slot site needed element Once k f e s h = once_roomy cells scope slot site needed element k f h
  shape_roomy cells scope slot site needed element (Filling size step) k f e s h = filling_roomy cells scope site (constant_of size) step element size k f e s h
  shape_roomy cells scope slot site needed element (OnceFilling size step) k f e s h = once_filling_roomy cells scope site (constant_of size) step element size k f e s h
  shape_roomy cells scope slot site needed element (UpToZero size) k f e s h = zero_roomy scope site element size k e h
  shape_roomy cells scope slot site needed element (Given source) k f e s h = source_roomy cells scope (part_bound element (Given source) None) source slot k e h

  copied_roomy : (scope : List Bound) (site : ℕ) (o : Option ℕ) (w : CopyOut) (size : Term) (k : Steps) → IsScoped scope size → AreRoomy (steps k) → AreRoomy (steps (copied_step t o w size site k))
  copied_roomy scope site None w size k e h = value_roomy (suc t) (expr_of size) _ (expr_roomy scope size e) (tt, h)
  copied_roomy scope site (Some m) w size k e h = by (nat_lt m (2 ^ 32)) refl
    where
      by : (b : Bool) → nat_lt m (2 ^ 32) ≡ b → AreRoomy (steps (cond b (ByConstant m site (CopyAll (suc t) w.buffer m site) k) (Never site)))
      by true l = (tt, ((omega (arith, ltb-true m (2 ^ 32) l), (tt, tt)), h))
      by false l = tt

  content_roomy : (cells scope : List Bound) (slot site : ℕ) (needed : Bool) (element : Element) (extent : Extent) (copy : Option CopyOut) (k : Steps) → IsElementFormed ds n cells scope element → IsExtentFormed cells scope element extent → HasSmallStep extent
      → AreRoomy (steps k) → AreRoomy (steps (content_step t element extent copy needed slot site k))
  content_roomy cells scope slot site needed element extent None k f e s h = shape_roomy cells scope slot site needed element extent k f e s h
  content_roomy cells scope slot site needed element Once (Some w) k f e s h = shape_roomy cells scope slot site needed element Once k f e s h
  content_roomy cells scope slot site needed element (Filling size step) (Some w) k f e s h = copied_roomy scope site (constant_of size) w size k e h
  content_roomy cells scope slot site needed element (OnceFilling size step) (Some w) k f e s h = shape_roomy cells scope slot site needed element (OnceFilling size step) k f e s h
  content_roomy cells scope slot site needed element (UpToZero size) (Some w) k f e s h = shape_roomy cells scope slot site needed element (UpToZero size) k f e s h
  content_roomy cells scope slot site needed element (Given source) (Some w) k f e s h = shape_roomy cells scope slot site needed element (Given source) k f e s h

  fields_roomy : (cells scope : List Bound) (site L : ℕ) (fs : List Field) → AreFieldsFormed ds n cells scope fs → Each IsFieldSmall fs → AreRoomy (steps (fields_steps t site L fs))
  fields_roomy cells scope site L [] f s = tt
  fields_roomy cells scope site L (x ∷ fs) f s =
      let needed = is_needed L x.parts fs in
      let rest = fields_steps t (length x.parts + site) (length x.parts + L) fs in
      let read = is_read x.element x.extent needed in (
        tt,
        content_roomy cells scope (number_slot L t x.parts) site needed x.element x.extent x.copy (parts_steps t read site L x.parts rest) f.0 f.1.0 s.0
            (parts_roomy cells x.element x.extent scope read site L x.parts rest f.1.1.0
            (fields_roomy cells (parts_scope x.element x.extent scope x.parts) (length x.parts + site) (length x.parts + L) fs f.1.1.1 s.1)),
      )

  default_roomy : (cells scope : List Bound) (switch site L u : ℕ) (o : Option (List Field)) → IsDefaultFormed ds n cells scope o → OfSome (Each IsFieldSmall) o → AreRoomy (cases u (last_case t switch site L o))
  default_roomy cells scope switch site L u None f s = tt
  default_roomy cells scope switch site L u (Some fs) f s = fields_roomy cells scope site L fs f s

  cases_roomy : (cells scope : List Bound) (switch site L u : ℕ) (cs : List Case) (o : Option (List Field)) → AreCasesFormed ds n cells scope cs → IsDefaultFormed ds n cells scope o
      → Each (λ c. IsWord c.value) cs → Each (λ c. Each IsFieldSmall c.fields) cs → OfSome (Each IsFieldSmall) o → AreRoomy (cases u (cases_of t switch site L cs o))
  cases_roomy cells scope switch site L u [] o f g v s r = default_roomy cells scope switch site L u o g r
  cases_roomy cells scope switch site L u (c ∷ cs) o f g v s r =
      (v.0, (tt, (fields_roomy cells scope site L c.fields f.0 s.0, cases_roomy cells scope switch (parts_in c.fields + site) L u cs o f.1 g v.1 s.1 r)))

  body_roomy : (cells scope : List Bound) (switch site L : ℕ) (b : BodyDef) → IsBodyFormed ds n cells scope b → HasSmallCases b → EachField IsFieldSmall b → AreRoomy (body (body_of t switch site L b))
  body_roomy cells scope switch site L (StructDef fs) f v s = fields_roomy cells scope site L fs f s
  body_roomy cells scope switch site L (CasetypeDef e cs o) f v s =
      value_roomy (suc t) (expr_of e) _ (expr_roomy scope e f.0) (cases_roomy cells scope switch site L (suc t) cs o f.1.0 f.1.1 v s.0 s.1)

  guard_roomy : (scope : List Bound) (site : ℕ) (o : Option Term) (b : Body) → IsOptionScoped scope o → AreRoomy (body b) → AreRoomy (body (guarded_body t site o b))
  guard_roomy scope site None b f h = h
  guard_roomy scope site (Some e) b f h = value_roomy (suc t) (expr_of e) _ (expr_roomy scope e f) (tt, h)

  pub definition_roomy : (first : ℕ) (d : TypeDef) → IsDefinitionFormed ds n d → HasSmallCases d.body → EachField IsFieldSmall d.body → AreRoomy (body (definition_body first t d))
  definition_roomy first d f v s =
      guard_roomy (param_bounds d.params) first d.guard (body_of t (first + 1) (first + 2) (length d.params) d.body) f.0
      (body_roomy (own_bounds d) (param_bounds d.params) (first + 1) (first + 2) (length d.params) d.body f.1 v s)
