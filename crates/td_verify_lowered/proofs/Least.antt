-- What is written for a definition of values that take a byte takes a byte.
use Rattle.std.proofs.Common.{◌≡◌, ℕ, zero, suc, ◌+◌, ◌^◌, ◌<◌, ◌≤◌, min, List, [], ◌∷◌, Bool, true, false, cond, nat_lt, length, Option, Some, None, refl, arith}
use Rattle.td_num.specs.Numbers.{bytes_in}
use Rattle.td_verify_lowered.specs.Imports.{Width, One, Two, Four, Eight, Kind, Element, Number as NumberElement, Listed as ListedElement, Named as NamedElement, Unit as UnitElement, Rest, Zeros, Extent, Once, Filling, OnceFilling, UpToZero, Given, Source, Expression, FromCell, Left, Bits, CopyOut, Part, Field, Case, Body as BodyDef, Struct as StructDef, Casetype as CasetypeDef, TypeDef}
use Rattle.td_core.specs.Term.{Term, Deed}
use Rattle.td_expr.specs.Same.{constant_of}
use Rattle.td_meaning.specs.Naming.{is_needed}
use Rattle.td_kinds.specs.declared.sizes.TheConstants.{SIZE_CAP}
use Rattle.td_kinds.specs.Kinds.{joined, element_kind, sized_kind, field_kind, fields_kind, default_kind, spanned_with, cases_kind, body_kind}
use Rattle.td_lower_blocks.specs.Constructs.{Steps, Inner, CopyAll, Body}
use Rattle.td_lower_blocks.specs.Lowered.{number_slot, bits_step, test_step, action_step, when, is_read, parts_in, parts_steps, once_step, constant_step, filling_step, once_filling_step, up_to_zero_step, source_step, shape_step, copied_step, content_step, fields_steps, last_case, cases_of, body_of, guarded_body, definition_body}
use Rattle.td_lower_blocks.specs.Placed.{ElementPlaced, ShapePlaced, FieldsPlaced, DefaultPlaced, CasesPlaced, BodyPlaced}
use Rattle.td_verify_lowered.specs.Weights.{least_of, cases_least, body_least}

some_bytes : (w : Width) → 1 ≤ bytes_in w
some_bytes One = omega arith
some_bytes Two = omega arith
some_bytes Four = omega arith
some_bytes Eight = omega arith

-- K are kinds of definitions, and least the least bytes of routines, of those that are named
module _ (K : ℕ → Kind) (least : ℕ → ℕ) (n : ℕ) (params : ℕ → ℕ) (some : (j : ℕ) → j < n → 1 ≤ (K j).least → 1 ≤ least j) (R t : ℕ) where
  -- parts take none
  bits_same : (read : Bool) (L : ℕ) (b : Option Bits) (k : Steps) → least_of least (when read (bits_step L t b) k) ≡ least_of least k
  bits_same false L b k = refl
  bits_same true L None k = refl
  bits_same true L (Some b) k = refl

  test_same : (site : ℕ) (o : Option Term) (k : Steps) → least_of least (test_step t site o k) ≡ least_of least k
  test_same site None k = refl
  test_same site (Some e) k = refl

  action_same : (L site : ℕ) (o : Option Deed) (k : Steps) → least_of least (action_step L t site o k) ≡ least_of least k
  action_same L site None k = refl
  action_same L site (Some d) k = refl

  parts_same : (read : Bool) (site L : ℕ) (ps : List Part) (k : Steps) → least_of least (parts_steps t read site L ps k) ≡ least_of least k
  parts_same read site L [] k = refl
  parts_same read site L (p ∷ ps) k =
      let rest = parts_steps t read (suc site) (suc L) ps k in
      let act = action_step L t site p.action rest in
      let x = bits_same read L p.bits (test_step t site p.refinement act) in
      let y = test_same site p.refinement act in
      let z = action_same L site p.action rest in
      let w = parts_same read (suc site) (suc L) ps k in
      omega (arith, x, y, z, w)

  once_more : (L slot site : ℕ) (needed : Bool) (element : Element) (k : Steps) → ElementPlaced n params R L (suc t) element → 1 ≤ (element_kind K element).least + least_of least k → 1 ≤ least_of least (once_step t element needed slot site k)
  once_more L slot site true (NumberElement type) k p h = let w = some_bytes type.width in omega (arith, w)
  once_more L slot site false (NumberElement type) k p h = let w = some_bytes type.width in omega (arith, w)
  once_more L slot site needed (ListedElement base v) k p h = let w = some_bytes base.width in omega (arith, w)
  once_more L slot site needed (NamedElement d args own) k p h = split (K d).least refl h
    where
      split : (m : ℕ) → m ≡ (K d).least → 1 ≤ m + least_of least k → 1 ≤ least d + least_of least k
      split zero e g = omega (arith, g)
      split (suc m) e g = let x = some d p.0 (omega (arith, e)) in omega (arith, x)
  once_more L slot site needed UnitElement k p h = omega (arith, h)
  once_more L slot site needed Rest k p h = omega (arith, h)
  once_more L slot site needed Zeros k p h = omega (arith, h)

  cond_more : {A : Type 0} (f : A → ℕ) (b : Bool) (x y : A) → 1 ≤ f x → 1 ≤ f y → 1 ≤ f (cond b x y)
  cond_more f true x y h k = h
  cond_more f false x y h k = k

  constant_more : (size site : ℕ) (x : Inner) (k : Steps) → 1 ≤ size + least_of least k → 1 ≤ least_of least (constant_step t size site x k)
  constant_more size site x k h = cond_more (least_of least) (nat_lt size (2 ^ 32)) _ _ h (omega arith)

  capped_more : (m k : ℕ) → 1 ≤ min m SIZE_CAP + k → 1 ≤ m + k
  capped_more zero k h = omega (arith, h)
  capped_more (suc m) k h = omega arith

  filling_more : (site : ℕ) (o step : Option ℕ) (element : Element) (size : Term) (k : Steps) → 1 ≤ (sized_kind o).least + least_of least k → 1 ≤ least_of least (filling_step t o step element size site k)
  filling_more site None step element size k h = omega (arith, h)
  filling_more site (Some m) step element size k h = constant_more m site _ k (capped_more m (least_of least k) h)

  once_filling_more : (site : ℕ) (o step : Option ℕ) (element : Element) (size : Term) (k : Steps) → 1 ≤ (sized_kind o).least + least_of least k → 1 ≤ least_of least (once_filling_step t o step element size site k)
  once_filling_more site None step element size k h = omega (arith, h)
  once_filling_more site (Some m) step element size k h = constant_more m site _ k (capped_more m (least_of least k) h)

  zero_more : (site : ℕ) (element : Element) (size : Term) (k : Steps) → 1 ≤ least_of least (up_to_zero_step t element size site k)
  zero_more site (NumberElement type) size k = let w = some_bytes type.width in omega (arith, w)
  zero_more site (ListedElement base v) size k = omega arith
  zero_more site (NamedElement d args own) size k = omega arith
  zero_more site UnitElement size k = omega arith
  zero_more site Rest size k = omega arith
  zero_more site Zeros size k = omega arith

  source_more : (source : Source) (slot : ℕ) (k : Steps) → 1 ≤ least_of least k → 1 ≤ least_of least (source_step t source slot k)
  source_more (Expression span e) slot k h = h
  source_more (FromCell cell) slot k h = h
  source_more Left slot k h = h

  shape_more : (L slot site : ℕ) (needed : Bool) (element : Element) (extent : Extent) (k : Steps) → ShapePlaced n params R L t element extent → 1 ≤ (field_kind K element extent).least + least_of least k → 1 ≤ least_of least (shape_step t element extent needed slot site k)
  shape_more L slot site needed element Once k p h = once_more L slot site needed element k p h
  shape_more L slot site needed element (Filling size step) k p h = filling_more site (constant_of size) step element size k h
  shape_more L slot site needed element (OnceFilling size step) k p h = once_filling_more site (constant_of size) step element size k h
  shape_more L slot site needed element (UpToZero size) k p h = zero_more site element size k
  shape_more L slot site needed element (Given source) k p h = source_more source slot k (omega (arith, h))

  copied_more : (site : ℕ) (o : Option ℕ) (w : CopyOut) (size : Term) (k : Steps) → 1 ≤ (sized_kind o).least + least_of least k → 1 ≤ least_of least (copied_step t o w size site k)
  copied_more site None w size k h = omega (arith, h)
  copied_more site (Some m) w size k h = constant_more m site (CopyAll (suc t) w.buffer m site) k (capped_more m (least_of least k) h)

  content_more : (L slot site : ℕ) (needed : Bool) (element : Element) (extent : Extent) (copy : Option CopyOut) (k : Steps) → ShapePlaced n params R L t element extent → 1 ≤ (field_kind K element extent).least + least_of least k
      → 1 ≤ least_of least (content_step t element extent copy needed slot site k)
  content_more L slot site needed element extent None k p h = shape_more L slot site needed element extent k p h
  content_more L slot site needed element Once (Some w) k p h = shape_more L slot site needed element Once k p h
  content_more L slot site needed element (Filling size step) (Some w) k p h = copied_more site (constant_of size) w size k h
  content_more L slot site needed element (OnceFilling size step) (Some w) k p h = shape_more L slot site needed element (OnceFilling size step) k p h
  content_more L slot site needed element (UpToZero size) (Some w) k p h = shape_more L slot site needed element (UpToZero size) k p h
  content_more L slot site needed element (Given source) (Some w) k p h = shape_more L slot site needed element (Given source) k p h

  -- of two that are joined one takes a byte
  joined_more : (a b : Kind) → 1 ≤ (joined a b).least → 1 ≤ a.least + b.least
  joined_more a b h = let x = capped_more (a.least + b.least) 0 (omega (arith, h)) in omega (arith, x)

  sum_more : (a b c : ℕ) → 1 ≤ a + b → (1 ≤ b → 1 ≤ c) → 1 ≤ a + c
  sum_more zero b c h f = let x = f (omega (arith, h)) in omega (arith, x)
  sum_more (suc a) b c h f = omega arith

  fields_more : (D site L : ℕ) (fs : List Field) → FieldsPlaced n params R D L t fs → 1 ≤ (fields_kind K fs).least → 1 ≤ least_of least (fields_steps t site L fs)
  fields_more D site L [] p h = absurd (omega (arith, h))
  fields_more D site L (f ∷ []) p h =
      let needed = is_needed L f.parts [] in
      content_more L (number_slot L t f.parts) site needed f.element f.extent f.copy _ p.1.0.0 (omega (arith, h))
  fields_more D site L (f ∷ g ∷ fs) p h =
      let needed = is_needed L f.parts (g ∷ fs) in
      let rest = fields_steps t (length f.parts + site) (length f.parts + L) (g ∷ fs) in
      let same = parts_same (is_read f.element f.extent needed) site L f.parts rest in
      let inside : 1 ≤ (field_kind K f.element f.extent).least + least_of least rest =
      sum_more (field_kind K f.element f.extent).least (fields_kind K (g ∷ fs)).least (least_of least rest) (joined_more (field_kind K f.element f.extent) (fields_kind K (g ∷ fs)) h)
      (fields_more D (length f.parts + site) (length f.parts + L) (g ∷ fs) p.1.1.1.1.1) in
      content_more L (number_slot L t f.parts) site needed f.element f.extent f.copy _ p.1.0.0 (omega (arith, inside, same))

  abbrev SomeLeast : Option Kind → Type 0
  SomeLeast None = Unit {0}
  SomeLeast (Some k) = 1 ≤ k.least

  spanned_more : (o : Option Kind) (k : Kind) → 1 ≤ (spanned_with o k).least → SomeLeast o × (1 ≤ k.least)
  spanned_more None k h = (tt, h)
  spanned_more (Some j) k h = (omega (arith, h), omega (arith, h))

  abbrev CasesLeast : List Case → Type 0
  CasesLeast [] = Unit {0}
  CasesLeast (c ∷ cs) = (1 ≤ (fields_kind K c.fields).least) × CasesLeast cs

  all_more : (o : Option Kind) (cs : List Case) → 1 ≤ (cases_kind K o cs).least → SomeLeast o × CasesLeast cs
  all_more None [] h = absurd (omega (arith, h))
  all_more (Some k) [] h = (h, tt)
  all_more o (c ∷ cs) h =
      let x = all_more (Some (spanned_with o (fields_kind K c.fields))) cs h in
      let y = spanned_more o (fields_kind K c.fields) x.0 in
      (y.0, (y.1, x.1))

  default_more : (D switch site L : ℕ) (o : Option (List Field)) → DefaultPlaced n params R D L t o → SomeLeast (default_kind K o) → 1 ≤ cases_least least (last_case t switch site L o)
  default_more D switch site L None p h = omega arith
  default_more D switch site L (Some fs) p h = fields_more D site L fs p h

  cases_more : (D switch site L : ℕ) (cs : List Case) (o : Option (List Field)) → CasesPlaced n params R D L t cs → DefaultPlaced n params R D L t o → CasesLeast cs → SomeLeast (default_kind K o) → 1 ≤ cases_least least (cases_of t switch site L cs o)
  cases_more D switch site L [] o p d h k = default_more D switch site L o d k
  cases_more D switch site L (c ∷ cs) o p d h k =
      let x = fields_more D site L c.fields p.0 h.0 in
      let y = cases_more D switch (parts_in c.fields + site) L cs o p.1 d h.1 k in
      omega (arith, x, y)

  body_more : (D switch site L : ℕ) (b : BodyDef) → BodyPlaced n params R D L t b → 1 ≤ (body_kind K b).least → 1 ≤ body_least least (body_of t switch site L b)
  body_more D switch site L (StructDef fs) p h = fields_more D site L fs p h
  body_more D switch site L (CasetypeDef e cases o) p h = let x = all_more (default_kind K o) cases h in cases_more D switch site L cases o p.1.0 p.1.1 x.1 x.0

  guard_same : (site : ℕ) (o : Option Term) (b : Body) → body_least least (guarded_body t site o b) ≡ body_least least b
  guard_same site None b = refl
  guard_same site (Some e) b = refl

  pub definition_more : (first : ℕ) (d : TypeDef) → BodyPlaced n params R t (length d.params) t d.body → 1 ≤ (body_kind K d.body).least → 1 ≤ body_least least (definition_body first t d)
  definition_more first d p h =
      let b = body_of t (first + 1) (first + 2) (length d.params) d.body in
      let x = guard_same first d.guard b in
      let y = body_more t (first + 1) (first + 2) (length d.params) d.body p h in
      omega (arith, x, y)
