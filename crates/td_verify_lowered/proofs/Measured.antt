-- What is written for a definition's fields weighs no more than the definition. Cited by other crates.
use Rattle.std.proofs.Common.{◌≡◌, ℕ, zero, suc, ◌+◌, ◌-◌, ◌*◌, ◌^◌, ◌<◌, ◌≤◌, List, [], ◌∷◌, Bool, true, false, cond, nat_lt, length, Option, Some, None, refl, arith}
use Rattle.td_num.specs.Lists.{Each}
use Rattle.td_core.specs.declared.expressions.Binary.{Binary as Operator}
use Rattle.td_core.specs.declared.expressions.Binary.TheVariants.{Add, Subtract, Multiply, Divide, Remainder, BitAnd, BitOr, BitXor, ShiftLeft as ShiftLeftOp, ShiftRight}
use Rattle.td_core.specs.declared.expressions.Relation.{Relation}
use Rattle.td_core.specs.declared.expressions.Relation.TheVariants.{Equal, NotEqual, Less, LessEqual, Greater, GreaterEqual}
use Rattle.td_core.specs.Term.{Term, number, name, complement, negation, compute, compare, both, either, choice, range_okay, measure, Deed, done, set, keep, fork, answer, give_up}
use Rattle.td_core.specs.WellFormed.{OfSome, EachField, HasParts}
use Rattle.td_core.specs.Weights.{option_nodes, terms_nodes, deed_nodes, action_nodes, element_nodes, source_nodes, extent_nodes, part_nodes, total, inner_nodes, of_named, as_array, fields_weight as module_weight, default_weight, cases_weight as module_cases_weight, body_weight as module_body_weight, head_nodes}
use Rattle.td_verify_lowered.specs.Imports.{Element, Number as NumberElement, Listed as ListedElement, Named as NamedElement, Unit as UnitElement, Rest, Zeros, Extent, Once, Filling, OnceFilling, UpToZero, Given, Source, Expression, FromCell, Left, Bits, CopyOut, Part, Field, Case, Body as BodyDef, Struct as StructDef, Casetype as CasetypeDef, TypeDef}
use Rattle.td_core.proofs.Nodes.{some_parts}
use Rattle.td_expr.specs.Same.{constant_of}
use Rattle.td_meaning.specs.Naming.{is_needed}
use Rattle.td_meaning.specs.Meaning.{divides, equals}
use Rattle.td_lower_blocks.specs.Constructs.{Expr, Steps, Inner, Uneven, CopyAll, Body}
use Rattle.td_lower_blocks.specs.Lowered.{computed_of, compared_of, mask_of, expr_of, exprs_of, action_of, number_slot, bits_step, test_step, action_step, when, is_read, terms_of, arguments, parts_in, parts_steps, once_step, evenly, exactly, each_inner, one_inner, constant_step, filling_step, once_filling_step, up_to_zero_step, source_step, shape_step, copied_step, content_step, fields_steps, last_case, cases_of, body_of, guarded_body, definition_body}
use Rattle.td_lower_blocks.specs.Placed.{ElementPlaced, ElementsPlaced, OnePlaced, ShapePlaced, FieldsPlaced, DefaultPlaced, CasesPlaced, BodyPlaced}
use Rattle.td_verify_lowered.specs.Weights.{nodes, all_nodes, act_nodes, inner_weight, weight_of, cases_weight, body_weight}

pub computed_nodes : (op : Operator) (mask : ℕ) (a b : Expr) → nodes (computed_of op mask a b) ≡ 1 + (nodes a + nodes b)
computed_nodes Add mask a b = refl
computed_nodes Subtract mask a b = refl
computed_nodes Multiply mask a b = refl
computed_nodes Divide mask a b = refl
computed_nodes Remainder mask a b = refl
computed_nodes BitAnd mask a b = refl
computed_nodes BitOr mask a b = refl
computed_nodes BitXor mask a b = refl
computed_nodes ShiftLeftOp mask a b = refl
computed_nodes ShiftRight mask a b = refl

pub compared_nodes : (r : Relation) (a b : Expr) → nodes (compared_of r a b) ≡ 1 + (nodes a + nodes b)
compared_nodes Equal a b = refl
compared_nodes NotEqual a b = refl
compared_nodes Less a b = refl
compared_nodes LessEqual a b = refl
compared_nodes Greater a b = omega arith
compared_nodes GreaterEqual a b = omega arith

pub nodes_are : (e : Term) → nodes (expr_of e) ≡ measure e
nodes_are (number n w) = refl
nodes_are (name i w most) = refl
nodes_are (complement a) = let x = nodes_are a in omega (arith, x)
nodes_are (negation a) = let x = nodes_are a in omega (arith, x)
nodes_are (compute op s a b) = let x = nodes_are a in let y = nodes_are b in let z = computed_nodes op (mask_of a) (expr_of a) (expr_of b) in omega (arith, x, y, z)
nodes_are (compare r a b) = let x = nodes_are a in let y = nodes_are b in let z = compared_nodes r (expr_of a) (expr_of b) in omega (arith, x, y, z)
nodes_are (both a b) = let x = nodes_are a in let y = nodes_are b in omega (arith, x, y)
nodes_are (either a b) = let x = nodes_are a in let y = nodes_are b in omega (arith, x, y)
nodes_are (choice c a b) = let x = nodes_are c in let y = nodes_are a in let z = nodes_are b in omega (arith, x, y, z)
nodes_are (range_okay s o a) = let x = nodes_are s in let y = nodes_are o in let z = nodes_are a in omega (arith, x, y, z)

pub all_are : (es : List Term) → all_nodes (exprs_of es) ≡ terms_nodes es
all_are [] = refl
all_are (e ∷ es) = let x = nodes_are e in let y = all_are es in omega (arith, x, y)

pub acts_are : (L : ℕ) (d : Deed) → act_nodes (action_of L d) ≡ deed_nodes d
acts_are L done = refl
acts_are L (set cell e then) = let x = nodes_are e in let y = acts_are L then in omega (arith, x, y)
acts_are L (keep cell then) = let y = acts_are (suc L) then in omega (arith, y)
acts_are L (fork e one other then) = let x = nodes_are e in let y = acts_are L one in let z = acts_are L other in let w = acts_are L then in omega (arith, x, y, z, w)
acts_are L (answer e) = let x = nodes_are e in omega (arith, x)
acts_are L give_up = refl

-- of an element's arguments
pub args_are : (element : Element) → all_nodes (arguments element) ≡ element_nodes element
args_are (NumberElement type) = refl
args_are (ListedElement base v) = refl
args_are (NamedElement d args own) = all_are args
args_are UnitElement = refl
args_are Rest = refl
args_are Zeros = refl

-- W are weights of routines, and E those of definitions, of those that are named
module _ (W E : ℕ → ℕ) (n : ℕ) (params : ℕ → ℕ) (less : (j : ℕ) → j < n → W j ≤ E j) (R t : ℕ) where
  bits_light : (read : Bool) (L : ℕ) (b : Option Bits) (k : Steps) → weight_of W (when read (bits_step L t b) k) ≤ 8 + weight_of W k
  bits_light false L b k = omega arith
  bits_light true L None k = omega arith
  bits_light true L (Some b) k = omega arith

  test_light : (site : ℕ) (o : Option Term) (k : Steps) → weight_of W (test_step t site o k) ≤ 4 + (8 * option_nodes o + weight_of W k)
  test_light site None k = omega arith
  test_light site (Some e) k = let x = nodes_are e in omega (arith, x)

  action_light : (L site : ℕ) (o : Option Deed) (k : Steps) → weight_of W (action_step L t site o k) ≤ 5 + (8 * action_nodes o + weight_of W k)
  action_light L site None k = omega arith
  action_light L site (Some d) k = let x = acts_are (suc (suc L)) d in omega (arith, x)

  parts_light : (read : Bool) (site L : ℕ) (ps : List Part) (k : Steps) → weight_of W (parts_steps t read site L ps k) ≤ 17 * length ps + (8 * total part_nodes ps + weight_of W k)
  parts_light read site L [] k = omega arith
  parts_light read site L (p ∷ ps) k =
      let rest = parts_steps t read (suc site) (suc L) ps k in
      let act = action_step L t site p.action rest in
      let x = bits_light read L p.bits (test_step t site p.refinement act) in
      let y = test_light site p.refinement act in
      let z = action_light L site p.action rest in
      let w = parts_light read (suc site) (suc L) ps k in
      omega (arith, x, y, z, w)

  once_light : (L slot site : ℕ) (needed : Bool) (element : Element) (k : Steps) → ElementPlaced n params R L (suc t) element → weight_of W (once_step t element needed slot site k) ≤ 8 + (8 * element_nodes element + (of_named E element + weight_of W k))
  once_light L slot site true (NumberElement type) k h = omega arith
  once_light L slot site false (NumberElement type) k h = omega arith
  once_light L slot site needed (ListedElement base v) k h = omega arith
  once_light L slot site needed (NamedElement d args own) k h = let x = all_are args in let y = less d h.0 in omega (arith, x, y)
  once_light L slot site needed UnitElement k h = omega arith
  once_light L slot site needed Rest k h = omega arith
  once_light L slot site needed Zeros k h = omega arith

  each_light : (L u site : ℕ) (element : Element) → ElementsPlaced n params R L t element → inner_weight W (each_inner t element u site) ≤ 14 + 2 * of_named E element
  each_light L u site (NumberElement type) h = omega arith
  each_light L u site (ListedElement base v) h = omega arith
  each_light L u site (NamedElement d args own) h = let y = less d h.0 in omega (arith, y)
  each_light L u site UnitElement h = omega arith
  each_light L u site Rest h = omega arith
  each_light L u site Zeros h = omega arith

  one_light : (L u site : ℕ) (element : Element) → OnePlaced n params R L t element → inner_weight W (one_inner t element u site) ≤ 14 + 2 * of_named E element
  one_light L u site (NumberElement type) h = omega arith
  one_light L u site (ListedElement base v) h = omega arith
  one_light L u site (NamedElement d args own) h = let y = less d h.0 in omega (arith, y)
  one_light L u site UnitElement h = omega arith
  one_light L u site Rest h = omega arith
  one_light L u site Zeros h = omega arith

  evenly_light : (step : Option ℕ) (u site : ℕ) (x : Inner) → inner_weight W (evenly t step u site x) ≤ 1 + inner_weight W x
  evenly_light None u site x = omega arith
  evenly_light (Some zero) u site x = omega arith
  evenly_light (Some (suc w)) u site x = omega arith

  exactly_light : (step : Option ℕ) (u site : ℕ) (x : Inner) → inner_weight W (exactly t step u site x) ≤ 4 + inner_weight W x
  exactly_light None u site x = omega arith
  exactly_light (Some w) u site x = omega arith

  cond_light : {A : Type 0} (f : A → ℕ) (b : Bool) (x y : A) (m : ℕ) → f x ≤ m → f y ≤ m → f (cond b x y) ≤ m
  cond_light f true x y m h k = h
  cond_light f false x y m h k = k

  constant_light : (size site : ℕ) (x : Inner) (k : Steps) → weight_of W (constant_step t size site x k) ≤ 64 + (inner_weight W x + weight_of W k)
  constant_light size site x k = cond_light (weight_of W) (nat_lt size (2 ^ 32)) _ _ (64 + (inner_weight W x + weight_of W k)) (omega arith) (omega arith)

  filling_light : (L site : ℕ) (o step : Option ℕ) (element : Element) (size : Term) (k : Steps) → ElementsPlaced n params R L t element
      → weight_of W (filling_step t o step element size site k) ≤ 64 + (8 * element_nodes element + (8 * measure size + (15 + (2 * of_named E element + weight_of W k))))
  filling_light L site None step element size k h =
      let u = suc t + length (terms_of element) in
      let x = args_are element in let y = nodes_are size in let z = each_light L (suc u) site element h in let w = evenly_light step u site (each_inner t element (suc u) site) in
      omega (arith, x, y, z, w)
  filling_light L site (Some m) step element size k h =
      let u = suc t + length (terms_of element) in
      let x = args_are element in let z = each_light L u site element h in
      let inside = cond (divides step m) (each_inner t element u site) (Uneven site) in
      let v : inner_weight W inside ≤ 14 + 2 * of_named E element = cond_light (inner_weight W) (divides step m) (each_inner t element u site) (Uneven site) (14 + 2 * of_named E element) z (omega arith) in
      let w = constant_light m site inside k in
      omega (arith, x, v, w)

  once_filling_light : (L site : ℕ) (o step : Option ℕ) (element : Element) (size : Term) (k : Steps) → OnePlaced n params R L t element
      → weight_of W (once_filling_step t o step element size site k) ≤ 64 + (8 * element_nodes element + (8 * measure size + (18 + (2 * of_named E element + weight_of W k))))
  once_filling_light L site None step element size k h =
      let u = suc t + length (terms_of element) in
      let x = args_are element in let y = nodes_are size in let z = one_light L (suc u) site element h in let w = exactly_light step u site (one_inner t element (suc u) site) in
      omega (arith, x, y, z, w)
  once_filling_light L site (Some m) step element size k h =
      let u = suc t + length (terms_of element) in
      let x = args_are element in let z = one_light L u site element h in
      let inside = cond (equals step m) (one_inner t element u site) (Uneven site) in
      let v : inner_weight W inside ≤ 14 + 2 * of_named E element = cond_light (inner_weight W) (equals step m) (one_inner t element u site) (Uneven site) (14 + 2 * of_named E element) z (omega arith) in
      let w = constant_light m site inside k in
      omega (arith, x, v, w)

  zero_light : (site : ℕ) (element : Element) (size : Term) (k : Steps) → weight_of W (up_to_zero_step t element size site k) ≤ 64 + (8 * measure size + weight_of W k)
  zero_light site (NumberElement type) size k = let y = nodes_are size in omega (arith, y)
  zero_light site (ListedElement base v) size k = omega arith
  zero_light site (NamedElement d args own) size k = omega arith
  zero_light site UnitElement size k = omega arith
  zero_light site Rest size k = omega arith
  zero_light site Zeros size k = omega arith

  source_light : (source : Source) (slot : ℕ) (k : Steps) → weight_of W (source_step t source slot k) ≤ 8 + (8 * source_nodes source + weight_of W k)
  source_light (Expression span e) slot k = let y = nodes_are e in omega (arith, y)
  source_light (FromCell cell) slot k = omega arith
  source_light Left slot k = omega arith

  -- beside a field's start and its parts
  shape_light : (L slot site m inner : ℕ) (needed : Bool) (element : Element) (extent : Extent) (k : Steps) → ShapePlaced n params R L t element extent → 1 ≤ m → element_nodes element + extent_nodes extent ≤ inner
      → weight_of W (shape_step t element extent needed slot site k) + (7 + (17 * m + 8 * (inner - (element_nodes element + extent_nodes extent)))) ≤ as_array extent (32 * m + (8 * inner + of_named E element)) + weight_of W k
  shape_light L slot site m inner needed element Once k h s i = let x = once_light L slot site needed element k h in omega (arith, x, s, i)
  shape_light L slot site m inner needed element (Filling size step) k h s i = let x = filling_light L site (constant_of size) step element size k h.1.1.0 in omega (arith, x, s, i)
  shape_light L slot site m inner needed element (OnceFilling size step) k h s i = let x = once_filling_light L site (constant_of size) step element size k h.1.1.0 in omega (arith, x, s, i)
  shape_light L slot site m inner needed element (UpToZero size) k h s i = let x = zero_light site element size k in omega (arith, x, s, i)
  shape_light L slot site m inner needed element (Given source) k h s i = let x = source_light source slot k in omega (arith, x, s, i)

  copied_light : (site : ℕ) (o : Option ℕ) (w : CopyOut) (size : Term) (k : Steps) → weight_of W (copied_step t o w size site k) ≤ 67 + (8 * measure size + weight_of W k)
  copied_light site None w size k = let y = nodes_are size in omega (arith, y)
  copied_light site (Some m) w size k = let y = constant_light m site (CopyAll (suc t) w.buffer m site) k in omega (arith, y)

  content_light : (L slot site m inner : ℕ) (needed : Bool) (element : Element) (extent : Extent) (copy : Option CopyOut) (k : Steps) → ShapePlaced n params R L t element extent → 1 ≤ m → element_nodes element + extent_nodes extent ≤ inner
      → weight_of W (content_step t element extent copy needed slot site k) + (7 + (17 * m + 8 * (inner - (element_nodes element + extent_nodes extent)))) ≤ as_array extent (32 * m + (8 * inner + of_named E element)) + weight_of W k
  content_light L slot site m inner needed element extent None k h s i = shape_light L slot site m inner needed element extent k h s i
  content_light L slot site m inner needed element Once (Some w) k h s i = shape_light L slot site m inner needed element Once k h s i
  content_light L slot site m inner needed element (Filling size step) (Some w) k h s i = let x = copied_light site (constant_of size) w size k in omega (arith, x, s, i)
  content_light L slot site m inner needed element (OnceFilling size step) (Some w) k h s i = shape_light L slot site m inner needed element (OnceFilling size step) k h s i
  content_light L slot site m inner needed element (UpToZero size) (Some w) k h s i = shape_light L slot site m inner needed element (UpToZero size) k h s i
  content_light L slot site m inner needed element (Given source) (Some w) k h s i = shape_light L slot site m inner needed element (Given source) k h s i

  fields_light : (D site L : ℕ) (fs : List Field) → FieldsPlaced n params R D L t fs → Each (λ f. HasParts f.parts) fs → weight_of W (fields_steps t site L fs) ≤ 1 + module_weight E fs
  fields_light D site L [] h w = omega arith
  fields_light D site L (f ∷ fs) h w =
      let needed = is_needed L f.parts fs in
      let rest = fields_steps t (length f.parts + site) (length f.parts + L) fs in
      let inside = parts_steps t (is_read f.element f.extent needed) site L f.parts rest in
      let x = content_light L (number_slot L t f.parts) site (length f.parts) (inner_nodes f) needed f.element f.extent f.copy inside h.1.0.0 (some_parts f.parts w.0) (omega arith) in
      let y = parts_light (is_read f.element f.extent needed) site L f.parts rest in
      let z = fields_light D (length f.parts + site) (length f.parts + L) fs h.1.1.1.1.1 w.1 in
      omega (arith, x, y, z)

  default_light : (D switch site L : ℕ) (o : Option (List Field)) → DefaultPlaced n params R D L t o → OfSome (Each (λ f. HasParts f.parts)) o → cases_weight W (last_case t switch site L o) ≤ 1 + default_weight E o
  default_light D switch site L None h w = omega arith
  default_light D switch site L (Some fs) h w = fields_light D site L fs h w

  cases_light : (D switch site L : ℕ) (cs : List Case) (o : Option (List Field)) → CasesPlaced n params R D L t cs → DefaultPlaced n params R D L t o → Each (λ x. Each (λ f. HasParts f.parts) x.fields) cs → OfSome (Each (λ f. HasParts f.parts)) o
      → cases_weight W (cases_of t switch site L cs o) ≤ module_cases_weight E cs + (1 + default_weight E o)
  cases_light D switch site L [] o h d w v = let x = default_light D switch site L o d v in omega (arith, x)
  cases_light D switch site L (c ∷ cs) o h d w v =
      let x = fields_light D site L c.fields h.0 w.0 in
      let y = cases_light D switch (parts_in c.fields + site) L cs o h.1 d w.1 v in
      omega (arith, x, y)

  body_light : (D switch site L : ℕ) (b : BodyDef) → BodyPlaced n params R D L t b → EachField (λ f. HasParts f.parts) b → body_weight W (body_of t switch site L b) ≤ 1 + module_body_weight E b
  body_light D switch site L (StructDef fs) h w = fields_light D site L fs h w
  body_light D switch site L (CasetypeDef e cases o) h w = let x = cases_light D switch site L cases o h.1.0 h.1.1 w.0 w.1 in let y = nodes_are e in omega (arith, x, y)

  guard_light : (site : ℕ) (o : Option Term) (b : Body) → body_weight W (guarded_body t site o b) ≤ 4 + (8 * option_nodes o + body_weight W b)
  guard_light site None b = omega arith
  guard_light site (Some e) b = let x = nodes_are e in omega (arith, x)

  pub definition_light : (first : ℕ) (d : TypeDef) → BodyPlaced n params R t (length d.params) t d.body → EachField (λ f. HasParts f.parts) d.body → body_weight W (definition_body first t d) ≤ 32 + (8 * head_nodes d + module_body_weight E d.body)
  definition_light first d h w =
      let b = body_of t (first + 1) (first + 2) (length d.params) d.body in
      let x = guard_light first d.guard b in
      let y = body_light t (first + 1) (first + 2) (length d.params) d.body h w in
      omega (arith, x, y)
