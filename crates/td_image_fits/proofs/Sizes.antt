-- The block of a definition has no more instructions than sixteen times its nodes.
use Rattle.std.proofs.Common.{ℕ, zero, suc, ◌+◌, ◌*◌, ◌^◌, ◌≤◌, List, [], ◌∷◌, Bool, true, false, cond, nat_lt, length, Option, Some, None, arith}
use Rattle.td_num.specs.Numbers.{bytes_in}
use Rattle.td_num.specs.Lists.{Each}
use Rattle.td_core.specs.Term.{Term, measure, Deed}
use Rattle.td_core.specs.WellFormed.{OfSome, EachField, HasParts}
use Rattle.td_core.specs.Weights.{option_nodes, action_nodes, element_nodes, source_nodes, extent_nodes, part_nodes, total, fields_nodes, default_nodes, cases_nodes as module_cases_nodes, body_nodes, head_nodes}
use Rattle.td_image_fits.specs.Imports.{Element, Number as NumberElement, Listed as ListedElement, Named as NamedElement, Unit as UnitElement, Rest, Zeros, Extent, Once, Filling, OnceFilling, UpToZero, Given, Source, Expression, FromCell, Left, Bits, CopyOut, Part, Field, Case, Body as BodyDef, Struct as StructDef, Casetype as CasetypeDef, TypeDef}
use Rattle.td_expr.specs.Same.{constant_of}
use Rattle.td_meaning.specs.Naming.{is_needed}
use Rattle.td_meaning.specs.Meaning.{divides, equals}
use Rattle.td_ir.specs.declared.instructions.Instr.TheVariants as i
use Rattle.td_lower_blocks.specs.Block.{Done, Then, Stop, Guard, Window, size}
use Rattle.td_lower_blocks.specs.Constructs.{Steps, ByConstant, Never, BySize, Inner, Uneven, CopyAll, Body, inner, steps, cases, body}
use Rattle.td_lower_blocks.specs.Lowered.{expr_of, action_of, number_slot, bits_step, test_step, action_step, when, is_read, terms_of, arguments, parts_in, parts_steps, once_step, evenly, exactly, each_inner, one_inner, constant_step, filling_step, once_filling_step, up_to_zero_step, source_step, shape_step, copied_step, content_step, fields_steps, last_case, cases_of, body_of, guarded_body, definition_body}
use Rattle.td_image_fits.proofs.Values.{value_size, values_size, acts_size}
use Rattle.td_core.proofs.Nodes.{some_parts}
use Rattle.td_verify_lowered.proofs.Measured.{nodes_are, all_are, acts_are, args_are}

module _ (t : ℕ) where
  bits_size : (read : Bool) (L : ℕ) (b : Option Bits) (k : Steps) → size (steps (when read (bits_step L t b) k)) ≤ 1 + size (steps k)
  bits_size false L b k = omega arith
  bits_size true L None k = omega arith
  bits_size true L (Some b) k = omega arith

  test_size : (site : ℕ) (o : Option Term) (k : Steps) → size (steps (test_step t site o k)) ≤ 1 + (5 * option_nodes o + size (steps k))
  test_size site None k = omega arith
  test_size site (Some e) k =
      let x = value_size (suc t) (expr_of e) (Guard true (suc t) (Stop (i.Fail 4 site)) (steps k)) in
      let y = nodes_are e in
      omega (arith, x, y)

  action_size : (L site : ℕ) (o : Option Deed) (k : Steps) → size (steps (action_step L t site o k)) ≤ 1 + (5 * action_nodes o + size (steps k))
  action_size L site None k = omega arith
  action_size L site (Some d) k =
      let x = acts_size (suc t) site (action_of (suc (suc L)) d) Done in
      let y = acts_are (suc (suc L)) d in
      omega (arith, x, y)

  parts_size : (read : Bool) (site L : ℕ) (ps : List Part) (k : Steps) → size (steps (parts_steps t read site L ps k)) ≤ 3 * length ps + (5 * total part_nodes ps + size (steps k))
  parts_size read site L [] k = omega arith
  parts_size read site L (p ∷ ps) k =
      let rest = parts_steps t read (suc site) (suc L) ps k in
      let act = action_step L t site p.action rest in
      let x = bits_size read L p.bits (test_step t site p.refinement act) in
      let y = test_size site p.refinement act in
      let z = action_size L site p.action rest in
      let w = parts_size read (suc site) (suc L) ps k in
      omega (arith, x, y, z, w)

  once_size : (slot site : ℕ) (needed : Bool) (element : Element) (k : Steps) → size (steps (once_step t element needed slot site k)) ≤ 4 + (5 * element_nodes element + size (steps k))
  once_size slot site true (NumberElement type) k = omega arith
  once_size slot site false (NumberElement type) k = omega arith
  once_size slot site needed (ListedElement base v) k = omega arith
  once_size slot site needed (NamedElement j args own) k =
      let x = values_size (suc t) (arguments (NamedElement j args own)) (Then (i.Call (suc t) j site site) (steps k)) in
      let y = all_are args in
      omega (arith, x, y)
  once_size slot site needed UnitElement k = omega arith
  once_size slot site needed Rest k = omega arith
  once_size slot site needed Zeros k = omega arith

  each_size : (u site : ℕ) (element : Element) → size (inner (each_inner t element u site)) ≤ 6
  each_size u site (NumberElement type) = omega arith
  each_size u site (ListedElement base v) = omega arith
  each_size u site (NamedElement j args own) = omega arith
  each_size u site UnitElement = omega arith
  each_size u site Rest = omega arith
  each_size u site Zeros = omega arith

  one_size : (u site : ℕ) (element : Element) → size (inner (one_inner t element u site)) ≤ 6
  one_size u site (NumberElement type) = omega arith
  one_size u site (ListedElement base v) = omega arith
  one_size u site (NamedElement j args own) = omega arith
  one_size u site UnitElement = omega arith
  one_size u site Rest = omega arith
  one_size u site Zeros = omega arith

  evenly_size : (step : Option ℕ) (u site : ℕ) (x : Inner) → size (inner (evenly t step u site x)) ≤ 1 + size (inner x)
  evenly_size None u site x = omega arith
  evenly_size (Some zero) u site x = omega arith
  evenly_size (Some (suc w)) u site x = omega arith

  exactly_size : (step : Option ℕ) (u site : ℕ) (x : Inner) → size (inner (exactly t step u site x)) ≤ 4 + size (inner x)
  exactly_size None u site x = omega arith
  exactly_size (Some w) u site x = omega arith

  either_size : (b : Bool) (x y : Inner) → size (inner x) ≤ 6 → size (inner y) ≤ 6 → size (inner (cond b x y)) ≤ 6
  either_size true x y h g = h
  either_size false x y h g = g

  constant_size : (n site : ℕ) (x : Inner) (k : Steps) → size (steps (constant_step t n site x k)) ≤ 2 + (size (inner x) + size (steps k))
  constant_size n site x k = by (nat_lt n (2 ^ 32))
    where
      by : (b : Bool) → size (steps (cond b (ByConstant n site x k) (Never site))) ≤ 2 + (size (inner x) + size (steps k))
      by true = omega arith
      by false = omega arith

  filling_size : (site : ℕ) (o step : Option ℕ) (element : Element) (e : Term) (k : Steps) → size (steps (filling_step t o step element e site k)) ≤ 10 + (5 * (element_nodes element + measure e) + size (steps k))
  filling_size site None step element e k =
      let u = suc t + length (terms_of element) in
      let x = evenly t step u site (each_inner t element (suc u) site) in
      let a = args_are element in
      let b = values_size (suc t) (arguments element) (steps (BySize u site (expr_of e) x k)) in
      let c = value_size u (expr_of e) (Window (i.Narrow u site) site (inner x) (steps k)) in
      let d = nodes_are e in
      let f = evenly_size step u site (each_inner t element (suc u) site) in
      let g = each_size (suc u) site element in
      omega (arith, a, b, c, d, f, g)
  filling_size site (Some n) step element e k =
      let u = suc t + length (terms_of element) in
      let x = cond (divides step n) (each_inner t element u site) (Uneven site) in
      let a = args_are element in
      let b = values_size (suc t) (arguments element) (steps (constant_step t n site x k)) in
      let c = constant_size n site x k in
      let d = either_size (divides step n) (each_inner t element u site) (Uneven site) (each_size u site element) (omega arith) in
      omega (arith, a, b, c, d)

  once_filling_size : (site : ℕ) (o step : Option ℕ) (element : Element) (e : Term) (k : Steps) → size (steps (once_filling_step t o step element e site k)) ≤ 12 + (5 * (element_nodes element + measure e) + size (steps k))
  once_filling_size site None step element e k =
      let u = suc t + length (terms_of element) in
      let x = exactly t step u site (one_inner t element (suc u) site) in
      let a = args_are element in
      let b = values_size (suc t) (arguments element) (steps (BySize u site (expr_of e) x k)) in
      let c = value_size u (expr_of e) (Window (i.Narrow u site) site (inner x) (steps k)) in
      let d = nodes_are e in
      let f = exactly_size step u site (one_inner t element (suc u) site) in
      let g = one_size (suc u) site element in
      omega (arith, a, b, c, d, f, g)
  once_filling_size site (Some n) step element e k =
      let u = suc t + length (terms_of element) in
      let x = cond (equals step n) (one_inner t element u site) (Uneven site) in
      let a = args_are element in
      let b = values_size (suc t) (arguments element) (steps (constant_step t n site x k)) in
      let c = constant_size n site x k in
      let d = either_size (equals step n) (one_inner t element u site) (Uneven site) (one_size u site element) (omega arith) in
      omega (arith, a, b, c, d)

  zero_size : (site : ℕ) (element : Element) (e : Term) (k : Steps) → size (steps (up_to_zero_step t element e site k)) ≤ 1 + (5 * measure e + size (steps k))
  zero_size site (NumberElement type) e k =
      let x = value_size (suc t) (expr_of e) (Then (i.Zeroterm (suc t) (bytes_in type.width) site) (steps k)) in
      let y = nodes_are e in
      omega (arith, x, y)
  zero_size site (ListedElement base v) e k = omega arith
  zero_size site (NamedElement j args own) e k = omega arith
  zero_size site UnitElement e k = omega arith
  zero_size site Rest e k = omega arith
  zero_size site Zeros e k = omega arith

  source_size : (source : Source) (slot : ℕ) (k : Steps) → size (steps (source_step t source slot k)) ≤ 1 + (5 * source_nodes source + size (steps k))
  source_size (Expression span e) slot k =
      let x = value_size (suc t) (expr_of e) (Then (i.Op slot 6 (suc t) (suc t)) (steps k)) in
      let y = nodes_are e in
      omega (arith, x, y)
  source_size (FromCell cell) slot k = omega arith
  source_size Left slot k = omega arith

  shape_size : (slot site : ℕ) (needed : Bool) (element : Element) (extent : Extent) (k : Steps)
      → size (steps (shape_step t element extent needed slot site k)) ≤ 12 + (5 * (element_nodes element + extent_nodes extent) + size (steps k))
  shape_size slot site needed element Once k = let x = once_size slot site needed element k in omega (arith, x)
  shape_size slot site needed element (Filling e step) k = let x = filling_size site (constant_of e) step element e k in omega (arith, x)
  shape_size slot site needed element (OnceFilling e step) k = let x = once_filling_size site (constant_of e) step element e k in omega (arith, x)
  shape_size slot site needed element (UpToZero e) k = let x = zero_size site element e k in omega (arith, x)
  shape_size slot site needed element (Given source) k = let x = source_size source slot k in omega (arith, x)

  copied_size : (site : ℕ) (o : Option ℕ) (w : CopyOut) (e : Term) (k : Steps) → size (steps (copied_step t o w e site k)) ≤ 4 + (5 * measure e + size (steps k))
  copied_size site None w e k =
      let x = value_size (suc t) (expr_of e) (Then (i.Copy (suc t) w.buffer site) (steps k)) in
      let y = nodes_are e in
      omega (arith, x, y)
  copied_size site (Some n) w e k = let x = constant_size n site (CopyAll (suc t) w.buffer n site) k in omega (arith, x)

  content_size : (slot site : ℕ) (needed : Bool) (element : Element) (extent : Extent) (copy : Option CopyOut) (k : Steps)
      → size (steps (content_step t element extent copy needed slot site k)) ≤ 12 + (5 * (element_nodes element + extent_nodes extent) + size (steps k))
  content_size slot site needed element extent None k = shape_size slot site needed element extent k
  content_size slot site needed element Once (Some w) k = shape_size slot site needed element Once k
  content_size slot site needed element (Filling e step) (Some w) k = let x = copied_size site (constant_of e) w e k in omega (arith, x)
  content_size slot site needed element (OnceFilling e step) (Some w) k = shape_size slot site needed element (OnceFilling e step) k
  content_size slot site needed element (UpToZero e) (Some w) k = shape_size slot site needed element (UpToZero e) k
  content_size slot site needed element (Given source) (Some w) k = shape_size slot site needed element (Given source) k

  fields_size : (site L : ℕ) (fs : List Field) → Each (λ f. HasParts f.parts) fs → size (steps (fields_steps t site L fs)) ≤ 1 + 16 * fields_nodes fs
  fields_size site L [] h = omega arith
  fields_size site L (f ∷ fs) h =
      let needed = is_needed L f.parts fs in
      let rest = fields_steps t (length f.parts + site) (length f.parts + L) fs in
      let inside = parts_steps t (is_read f.element f.extent needed) site L f.parts rest in
      let x = content_size (number_slot L t f.parts) site needed f.element f.extent f.copy inside in
      let y = parts_size (is_read f.element f.extent needed) site L f.parts rest in
      let z = fields_size (length f.parts + site) (length f.parts + L) fs h.1 in
      let w = some_parts f.parts h.0 in
      omega (arith, x, y, z, w)

  default_size : (switch site L u : ℕ) (o : Option (List Field)) → OfSome (Each (λ f. HasParts f.parts)) o → size (cases u (last_case t switch site L o)) ≤ 1 + 16 * default_nodes o
  default_size switch site L u None h = omega arith
  default_size switch site L u (Some fs) h = fields_size site L fs h

  cases_size : (switch site L u : ℕ) (cs : List Case) (o : Option (List Field)) → Each (λ c. Each (λ f. HasParts f.parts) c.fields) cs → OfSome (Each (λ f. HasParts f.parts)) o
      → size (cases u (cases_of t switch site L cs o)) ≤ 1 + 16 * (module_cases_nodes cs + default_nodes o)
  cases_size switch site L u [] o h g = let x = default_size switch site L u o g in omega (arith, x)
  cases_size switch site L u (c ∷ cs) o h g =
      let x = fields_size site L c.fields h.0 in
      let y = cases_size switch (parts_in c.fields + site) L u cs o h.1 g in
      omega (arith, x, y)

  body_size : (switch site L : ℕ) (b : BodyDef) → EachField (λ f. HasParts f.parts) b → size (body (body_of t switch site L b)) ≤ 1 + 16 * body_nodes b
  body_size switch site L (StructDef fs) h = fields_size site L fs h
  body_size switch site L (CasetypeDef e cs o) h =
      let x = value_size (suc t) (expr_of e) (cases (suc t) (cases_of t switch site L cs o)) in
      let y = nodes_are e in
      let z = cases_size switch site L (suc t) cs o h.0 h.1 in
      omega (arith, x, y, z)

  guard_size : (site : ℕ) (o : Option Term) (b : Body) → size (body (guarded_body t site o b)) ≤ 1 + (5 * option_nodes o + size (body b))
  guard_size site None b = omega arith
  guard_size site (Some e) b =
      let x = value_size (suc t) (expr_of e) (Guard true (suc t) (Stop (i.Fail 4 site)) (body b)) in
      let y = nodes_are e in
      omega (arith, x, y)

  pub definition_size : (first : ℕ) (d : TypeDef) → EachField (λ f. HasParts f.parts) d.body → size (body (definition_body first t d)) ≤ 16 * (1 + (head_nodes d + body_nodes d.body))
  definition_size first d h =
      let b = body_of t (first + 1) (first + 2) (length d.params) d.body in
      let x = guard_size first d.guard b in
      let y = body_size (first + 1) (first + 2) (length d.params) d.body h in
      omega (arith, x, y)
