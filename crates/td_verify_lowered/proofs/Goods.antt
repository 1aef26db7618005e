-- What is written for fields is as it may be.
use Rattle.std.proofs.Common.{◌≡◌, ℕ, zero, suc, ◌+◌, ◌^◌, ◌<◌, ◌≤◌, inl, inr, List, [], ◌∷◌, Bool, true, false, cond, nat_lt, length, Option, Some, None, refl, sym, subst, arith}
use Rattle.std.proofs.lemmas.Bool.Decides.{nat_tests}
use Rattle.td_num.specs.Numbers.{bytes_in}
use Rattle.td_verify_lowered.specs.Imports.{Width, One, Two, Four, Eight, Element, Number as NumberElement, Listed as ListedElement, Named as NamedElement, Unit as UnitElement, Rest, Zeros, Extent, Once, Filling, OnceFilling, UpToZero, Given, Source, Expression, FromCell, Left, Bits, CopyOut, Part, Field, Case, Body as BodyDef, Struct as StructDef, Casetype as CasetypeDef, TypeDef, Parts}
use Rattle.td_num.specs.declared.number.ByteOrder.{ByteOrder}
use Rattle.td_num.specs.declared.number.ByteOrder.TheVariants.{LittleEndian, BigEndian}
use Rattle.td_num.specs.declared.number.NumberType.{NumberType}
use Rattle.td_num.specs.Lists.{Each}
use Rattle.td_core.specs.Term.{Term, Deed, done, set, keep, fork, answer, give_up}
use Rattle.td_core.specs.WellFormed.{OfSome, EachField, HasParts}
use Rattle.td_core.proofs.Nodes.{some_parts}
use Rattle.td_expr.specs.Same.{constant_of}
use Rattle.td_meaning.specs.Naming.{is_needed}
use Rattle.td_meaning.specs.Meaning.{divides, equals}
use Rattle.td_ir.specs.Tables.{routine_of}
use Rattle.td_verify.specs.Operands.{IsWidth}
use Rattle.td_lower_blocks.specs.Constructs.{Expr, Lit, Slot, Binary, Not, Complement, ShiftLeft, Both, Either, Choice, Range, Steps, Inner, CopyAll, Body}
use Rattle.td_lower_blocks.specs.Lowered.{expr_of, exprs_of, action_of, order_code, part_slot, number_slot, bits_step, test_step, action_step, when, is_read, terms_of, arguments, parts_in, cases_parts, default_parts, body_parts, parts_steps, once_step, evenly, exactly, each_inner, one_inner, constant_step, filling_step, once_filling_step, up_to_zero_step, source_step, shape_step, copied_step, content_step, fields_steps, last_case, cases_of, body_of, guarded_body, definition_body}
use Rattle.td_lower_blocks.specs.Placed.{Reaches, IsExpr, DeedPlaced, OptionExpr, OptionDeed, PartsPlaced, ArgsPlaced, ElementPlaced, SizePlaced, ElementsPlaced, OnePlaced, IsNumber, SourcePlaced, ShapePlaced, CopyPlaced, FieldsPlaced, DefaultPlaced, CasesPlaced, BodyPlaced}
use Rattle.td_lower_blocks.specs.Tops.{deed_cells, option_cells, source_cells, extent_cells, parts_cells}
use Rattle.td_verify_lowered.specs.Good.{IsSiteOf, AllReach, Does, IsCallable, IsRead, GoodInner, Good, GoodCases, GoodBody}
use Rattle.td_verify_lowered.proofs.Fit.{BitsFit, ElementFits, ArrayFits, CopyFits, FieldsFit, DefaultFits, CasesFit, BodyFits}

reach_some : (R t : ℕ) (e : Expr) → Reaches R t e → t < R
reach_some R t (Lit n) h = h
reach_some R t (Slot place) h = h.0
reach_some R t (Binary op a b) h = let x = h.0 in omega (arith, x)
reach_some R t (Not a) h = let x = h.0 in omega (arith, x)
reach_some R t (Complement mask a) h = let x = h.0 in omega (arith, x)
reach_some R t (ShiftLeft mask a b) h = let x = h.0 in omega (arith, x)
reach_some R t (Both a b) h = h.0
reach_some R t (Either a b) h = h.0
reach_some R t (Choice c a b) h = h.0
reach_some R t (Range s o a) h = let x = h.0 in omega (arith, x)

does : (R C D L t : ℕ) (d : Deed) → DeedPlaced R D L t d → deed_cells d ≤ C → Does R C t (action_of L d)
does R C D L t done h k = tt
does R C D L t (set cell e then) h k = (reach_some R t (expr_of e) h.0.1.1, omega (arith, k), h.0.1.1, does R C D L t then h.1 (omega (arith, k)))
does R C D L t (keep cell then) h k = (h.1.0, omega (arith, k), does R C D (suc L) t then h.1.1 (omega (arith, k)))
does R C D L t (fork e one other then) h k =
    (reach_some R t (expr_of e) h.0.1.1, h.0.1.1, does R C D L (t + 1) one h.1.0 (omega (arith, k)), does R C D L (t + 1) other h.1.1.0 (omega (arith, k)), does R C D L t then h.1.1.1 (omega (arith, k)))
does R C D L t (answer e) h k = (reach_some R t (expr_of e) h.1.1, h.1.1)
does R C D L t give_up h k = tt

reach_all : (R L u : ℕ) (es : List Term) → ArgsPlaced R L u es → AllReach R u (exprs_of es)
reach_all R L u [] h = tt
reach_all R L u (e ∷ es) h = (h.0.1.1, reach_all R L (u + 1) es h.1)

args_room : (R L u : ℕ) (es : List Term) → ArgsPlaced R L u es → u ≤ R → u + length es ≤ R
args_room R L u [] h k = omega (arith, k)
args_room R L u (e ∷ es) h k = let s = reach_some R u (expr_of e) h.0.1.1 in let r = args_room R L (u + 1) es h.1 (omega (arith, s)) in omega (arith, r)

is_width : (w : Width) → IsWidth (bytes_in w)
is_width One = inl refl
is_width Two = inr (inl refl)
is_width Four = inr (inr (inl refl))
is_width Eight = inr (inr (inr refl))

order_in : (o : ByteOrder) → order_code o ≤ 1
order_in LittleEndian = omega arith
order_in BigEndian = omega arith

choose : {A : Type 0} (P : A → Type 0) (b : Bool) (x y : A) → (b ≡ true → P x) → P y → P (cond b x y)
choose P true x y f h = f refl
choose P false x y f h = h

below : (a b : ℕ) → nat_lt a b ≡ true → a < b
below a b h = grind (arith, nat_tests)

slot_in : (R D L t : ℕ) (ps : List Part) → PartsPlaced R D L t ps → t < R → number_slot L t ps < R
slot_in R D L t [] h k = k
slot_in R D L t (p ∷ ps) h k = slot p.bits
  where
    slot : (b : Option Bits) → part_slot L t b < R
    slot None = h.0.1
    slot (Some b) = k

module _ (c : Parts) (depth : ℕ → ℕ) (busy : ℕ → Bool) (n t : ℕ) (params : ℕ → ℕ) (maps : length c.sites ≤ length c.maps)
    (params_are : (d : ℕ) → d < n → (routine_of c d).params ≡ params d) (room : suc t < (routine_of c n).registers)
    (low last : ℕ) (own : (k : ℕ) → low ≤ k → k < last → IsSiteOf c n k) where
  -- so many sites from one on are the routine's
  abbrev InRange : (site count : ℕ) → Type 0
  InRange site count = (low ≤ site) × (site + count ≤ last)

  good_bits : (read : Bool) (L : ℕ) (b : Option Bits) (k : Steps) → L < (routine_of c n).registers → BitsFit b → Good c depth busy n k → Good c depth busy n (when read (bits_step L t b) k)
  good_bits false L b k h f g = g
  good_bits true L None k h f g = g
  good_bits true L (Some b) k h f g = (h, omega (arith, room), f.0, f.1, g)

  good_test : (L site : ℕ) (o : Option Term) (k : Steps) → OptionExpr (routine_of c n).registers L (suc t) o → IsSiteOf c n site → Good c depth busy n k → Good c depth busy n (test_step t site o k)
  good_test L site None k h s g = g
  good_test L site (Some e) k h s g = (room, h.1.1, s, g)

  good_action : (D L site : ℕ) (o : Option Deed) (k : Steps) → OptionDeed (routine_of c n).registers D (suc L) (suc t) o → option_cells o ≤ (routine_of c n).cells → IsSiteOf c n site → Good c depth busy n k
      → Good c depth busy n (action_step L t site o k)
  good_action D L site None k h f s g = g
  good_action D L site (Some d) k h f s g = (h.1.0, (does (routine_of c n).registers (routine_of c n).cells D (suc (suc L)) (suc t) d h.1.1 f, s, g))

  good_parts : (D : ℕ) (read : Bool) (site L : ℕ) (ps : List Part) (k : Steps) → PartsPlaced (routine_of c n).registers D L t ps → Each (λ p. BitsFit p.bits) ps → parts_cells ps ≤ (routine_of c n).cells → InRange site (length ps)
      → Good c depth busy n k → Good c depth busy n (parts_steps t read site L ps k)
  good_parts D read site L [] k h b f s g = g
  good_parts D read site L (p ∷ ps) k h b f s g =
      good_bits read L p.bits _ h.0.1 b.0
      (good_test (suc L) site p.refinement _ h.1.0 (own site s.0 (omega (arith, s.1)))
      (good_action D L site p.action _ h.1.1.0 (omega (arith, f)) (own site s.0 (omega (arith, s.1)))
      (good_parts D read (suc site) (suc L) ps k h.1.1.1 b.1 (omega (arith, f)) (omega (arith, s.0), omega (arith, s.1)) g)))

  callable : (L site d : ℕ) (args : List Term) (own : List ℕ) → d < n → params d ≡ length args → ArgsPlaced (routine_of c n).registers L (suc t) args → IsSiteOf c n site → ElementFits c depth busy n site (NamedElement d args own)
      → IsCallable c depth n (suc t) d site site (length args)
  callable L site d args own lt p a s f = record {
    earlier = lt;
    shallower = f.0;
    params = (let e = params_are d lt in subst (λ x. (routine_of c d).params ≡ x) p e);
    room = args_room (routine_of c n).registers L (suc t) args a (omega (arith, room));
    named = s;
    map = f.1 (omega (arith, s.0, maps));
  }

  read_at : (slot site : ℕ) (type : NumberType) → slot < (routine_of c n).registers → IsSiteOf c n site → IsRead c n slot (order_code type.order) (bytes_in type.width) site
  read_at slot site type h s = record { slot_in = h; order_is = order_in type.order; width_is = is_width type.width; named = s }

  good_once : (L slot site : ℕ) (needed : Bool) (element : Element) (k : Steps) → ElementPlaced n params (routine_of c n).registers L (suc t) element → ElementFits c depth busy n site element → slot < (routine_of c n).registers → IsSiteOf c n site
      → Good c depth busy n k → Good c depth busy n (once_step t element needed slot site k)
  good_once L slot site true (NumberElement type) k h f l s g = (read_at slot site type l s, g)
  good_once L slot site false (NumberElement type) k h f l s g = (is_width type.width, s, g)
  good_once L slot site needed (ListedElement base v) k h f l s g = (read_at slot site base l s, h, f, g)
  good_once L slot site needed (NamedElement d args own) k h f l s g =
      (callable' args (callable L site d args own h.0 h.1.0 h.1.1 s f), reach_all (routine_of c n).registers L (suc t) args h.1.1, g)
    where
      lengths : (es : List Term) → length es ≡ length (exprs_of es)
      lengths [] = refl
      lengths (e ∷ es) = let x = lengths es in omega (arith, x)

      callable' : (es : List Term) → IsCallable c depth n (suc t) d site site (length es) → IsCallable c depth n (suc t) d site site (length (exprs_of es))
      callable' es x = subst (IsCallable c depth n (suc t) d site site) (lengths es) x
  good_once L slot site needed UnitElement k h f l s g = g
  good_once L slot site needed Rest k h f l s g = g
  good_once L slot site needed Zeros k h f l s g = (s, g)

  good_each : (L u site : ℕ) (element : Element) (size : Term) (step : Option ℕ) → ElementsPlaced n params (routine_of c n).registers L t element → ElementFits c depth busy n site element → ArrayFits c depth busy n element (Filling size step) → u < (routine_of c n).registers → IsSiteOf c n site
      → GoodInner c depth busy n (each_inner t element u site)
  good_each L u site (NumberElement type) size step h f b l s = tt
  good_each L u site (ListedElement base v) size step h f b l s = (read_at t site base (omega (arith, room)) s, l, f)
  good_each L u site (NamedElement d args own) size step h f b l s = (callable L site d args own h.0 h.1.0 h.1.1 s f, b)
  good_each L u site UnitElement size step h f b l s = absurd h
  good_each L u site Rest size step h f b l s = absurd h
  good_each L u site Zeros size step h f b l s = absurd h

  good_one : (L u site : ℕ) (element : Element) → OnePlaced n params (routine_of c n).registers L t element → ElementFits c depth busy n site element → u < (routine_of c n).registers → IsSiteOf c n site → GoodInner c depth busy n (one_inner t element u site)
  good_one L u site (NumberElement type) h f l s = tt
  good_one L u site (ListedElement base v) h f l s = (read_at t site base (omega (arith, room)) s, l, f)
  good_one L u site (NamedElement d args own) h f l s = callable L site d args own h.0 h.1.0 h.1.1 s f
  good_one L u site UnitElement h f l s = tt
  good_one L u site Rest h f l s = tt
  good_one L u site Zeros h f l s = s

  good_evenly : (step : Option ℕ) (u site : ℕ) (x : Inner) → u < (routine_of c n).registers → IsSiteOf c n site → GoodInner c depth busy n x → GoodInner c depth busy n (evenly t step u site x)
  good_evenly None u site x l s g = g
  good_evenly (Some zero) u site x l s g = g
  good_evenly (Some (suc w)) u site x l s g = (l, omega arith, s, g)

  good_exactly : (step : Option ℕ) (u site : ℕ) (x : Inner) → suc u < (routine_of c n).registers → IsSiteOf c n site → GoodInner c depth busy n x → GoodInner c depth busy n (exactly t step u site x)
  good_exactly None u site x l s g = g
  good_exactly (Some w) u site x l s g = (omega (arith, l), l, s, g)

  good_constant : (size site : ℕ) (x : Inner) (k : Steps) → IsSiteOf c n site → GoodInner c depth busy n x → Good c depth busy n k → Good c depth busy n (constant_step t size site x k)
  good_constant size site x k s h g = choose (Good c depth busy n) (nat_lt size (2 ^ 32)) _ _ (λ e. (below size (2 ^ 32) e, s, h, g)) s

  all_each : (L : ℕ) (element : Element) → ElementsPlaced n params (routine_of c n).registers L t element → AllReach (routine_of c n).registers (suc t) (arguments element)
  all_each L (NumberElement type) h = tt
  all_each L (ListedElement base v) h = tt
  all_each L (NamedElement d args own) h = reach_all (routine_of c n).registers L (suc t) args h.1.1
  all_each L UnitElement h = tt
  all_each L Rest h = tt
  all_each L Zeros h = tt

  all_one : (L : ℕ) (element : Element) → OnePlaced n params (routine_of c n).registers L t element → AllReach (routine_of c n).registers (suc t) (arguments element)
  all_one L (NumberElement type) h = tt
  all_one L (ListedElement base v) h = tt
  all_one L (NamedElement d args own) h = reach_all (routine_of c n).registers L (suc t) args h.1.1
  all_one L UnitElement h = tt
  all_one L Rest h = tt
  all_one L Zeros h = tt

  good_filling : (L site : ℕ) (o step : Option ℕ) (element : Element) (size : Term) (k : Steps) → suc (suc t + length (terms_of element)) < (routine_of c n).registers
      → SizePlaced (routine_of c n).registers L (suc t + length (terms_of element)) size o → ElementsPlaced n params (routine_of c n).registers L t element → ElementFits c depth busy n site element
      → ArrayFits c depth busy n element (Filling size step) → IsSiteOf c n site → Good c depth busy n k → Good c depth busy n (filling_step t o step element size site k)
  good_filling L site None step element size k r z h f b s g =
      let u = suc t + length (terms_of element) in
      (all_each L element h, (omega (arith, r), z.1.1, s, good_evenly step u site _ (omega (arith, r)) s (good_each L (suc u) site element size step h f b r s), g))
  good_filling L site (Some w) step element size k r z h f b s g =
      let u = suc t + length (terms_of element) in
      (all_each L element h, good_constant w site _ k s (choose (GoodInner c depth busy n) (divides step w) _ _ (λ e. good_each L u site element size step h f b (omega (arith, r)) s) s) g)

  good_once_filling : (L site : ℕ) (o step : Option ℕ) (element : Element) (size : Term) (k : Steps) → suc (suc t + length (terms_of element)) + 1 < (routine_of c n).registers
      → SizePlaced (routine_of c n).registers L (suc t + length (terms_of element)) size o → OnePlaced n params (routine_of c n).registers L t element → ElementFits c depth busy n site element
      → IsSiteOf c n site → Good c depth busy n k → Good c depth busy n (once_filling_step t o step element size site k)
  good_once_filling L site None step element size k r z h f s g =
      let u = suc t + length (terms_of element) in
      (all_one L element h, (omega (arith, r), z.1.1, s, good_exactly step u site _ (omega (arith, r)) s (good_one L (suc u) site element h f (omega (arith, r)) s), g))
  good_once_filling L site (Some w) step element size k r z h f s g =
      let u = suc t + length (terms_of element) in
      (all_one L element h, good_constant w site _ k s (choose (GoodInner c depth busy n) (equals step w) _ _ (λ e. good_one L u site element h f (omega (arith, r)) s) s) g)

  good_zero : (L site : ℕ) (element : Element) (size : Term) (k : Steps) → IsExpr (routine_of c n).registers L (suc t) size → IsNumber element → IsSiteOf c n site → Good c depth busy n k → Good c depth busy n (up_to_zero_step t element size site k)
  good_zero L site (NumberElement type) size k h i s g = (room, h.1.1, is_width type.width, s, g)
  good_zero L site (ListedElement base v) size k h i s g = absurd i
  good_zero L site (NamedElement d args own) size k h i s g = absurd i
  good_zero L site UnitElement size k h i s g = absurd i
  good_zero L site Rest size k h i s g = absurd i
  good_zero L site Zeros size k h i s g = absurd i

  good_source : (L slot : ℕ) (source : Source) (k : Steps) → SourcePlaced (routine_of c n).registers L (suc t) source → source_cells source ≤ (routine_of c n).cells → slot < (routine_of c n).registers → Good c depth busy n k
      → Good c depth busy n (source_step t source slot k)
  good_source L slot (Expression span e) k h u l g = (room, l, h.1.1, g)
  good_source L slot (FromCell cell) k h u l g = (l, omega (arith, u), g)
  good_source L slot Left k h u l g = (l, g)

  good_shape : (L slot site : ℕ) (needed : Bool) (element : Element) (extent : Extent) (k : Steps) → ShapePlaced n params (routine_of c n).registers L t element extent → ElementFits c depth busy n site element → ArrayFits c depth busy n element extent
      → extent_cells extent ≤ (routine_of c n).cells → slot < (routine_of c n).registers → IsSiteOf c n site → Good c depth busy n k → Good c depth busy n (shape_step t element extent needed slot site k)
  good_shape L slot site needed element Once k h f b u l s g = good_once L slot site needed element k h f l s g
  good_shape L slot site needed element (Filling size step) k h f b u l s g = good_filling L site (constant_of size) step element size k h.0 h.1.0 h.1.1.0 f b s g
  good_shape L slot site needed element (OnceFilling size step) k h f b u l s g = good_once_filling L site (constant_of size) step element size k h.0 h.1.0 h.1.1.0 f s g
  good_shape L slot site needed element (UpToZero size) k h f b u l s g = good_zero L site element size k h.0 h.1 s g
  good_shape L slot site needed element (Given source) k h f b u l s g = good_source L slot source k h u l g

  good_copied : (L site : ℕ) (o : Option ℕ) (w : CopyOut) (size : Term) (k : Steps) → IsExpr (routine_of c n).registers L (suc t) size → w.buffer < length (routine_of c n).buffers → IsSiteOf c n site
      → Good c depth busy n k → Good c depth busy n (copied_step t o w size site k)
  good_copied L site None w size k h b s g = (record { size_in = room; buffer_in = b; named = s }, h.1.1, g)
  good_copied L site (Some m) w size k h b s g = good_constant m site (CopyAll (suc t) w.buffer m site) k s (record { size_in = room; buffer_in = b; named = s }) g

  good_content : (L slot site : ℕ) (needed : Bool) (element : Element) (extent : Extent) (copy : Option CopyOut) (k : Steps) → ShapePlaced n params (routine_of c n).registers L t element extent → CopyPlaced (routine_of c n).registers L t extent copy
      → ElementFits c depth busy n site element → ArrayFits c depth busy n element extent → CopyFits c depth busy n copy → extent_cells extent ≤ (routine_of c n).cells → slot < (routine_of c n).registers → IsSiteOf c n site
      → Good c depth busy n k → Good c depth busy n (content_step t element extent copy needed slot site k)
  good_content L slot site needed element extent None k h y f b w u l s g = good_shape L slot site needed element extent k h f b u l s g
  good_content L slot site needed element Once (Some x) k h y f b w u l s g = good_shape L slot site needed element Once k h f b u l s g
  good_content L slot site needed element (Filling size step) (Some x) k h y f b w u l s g = good_copied L site (constant_of size) x size k y w s g
  good_content L slot site needed element (OnceFilling size step) (Some x) k h y f b w u l s g = good_shape L slot site needed element (OnceFilling size step) k h f b u l s g
  good_content L slot site needed element (UpToZero size) (Some x) k h y f b w u l s g = good_shape L slot site needed element (UpToZero size) k h f b u l s g
  good_content L slot site needed element (Given source) (Some x) k h y f b w u l s g = good_shape L slot site needed element (Given source) k h f b u l s g

  -- a field has at least one part, so its site is in the table
  good_fields : (D site L : ℕ) (fs : List Field) → FieldsPlaced n params (routine_of c n).registers D L t fs → FieldsFit c depth busy n site fs → Each (λ f. HasParts f.parts) fs → InRange site (parts_in fs)
      → Good c depth busy n (fields_steps t site L fs)
  good_fields D site L [] h f w s = tt
  good_fields D site L (x ∷ fs) h f w s =
      let some = some_parts x.parts w.0 in
      good_content L (number_slot L t x.parts) site (is_needed L x.parts fs) x.element x.extent x.copy _ h.1.0.0 h.1.0.1 f.0.element f.0.array f.0.copy f.0.source (slot_in (routine_of c n).registers D L t x.parts h.1.1.0 (omega (arith, room))) (own site s.0 (omega (arith, s.1, some)))
      (good_parts D (is_read x.element x.extent (is_needed L x.parts fs)) site L x.parts _ h.1.1.0 f.0.bits f.0.cells (s.0, omega (arith, s.1))
      (good_fields D (length x.parts + site) (length x.parts + L) fs h.1.1.1.1.1 f.1 w.1 (omega (arith, s.0), omega (arith, s.1))))

  good_last : (D switch site L : ℕ) (o : Option (List Field)) → DefaultPlaced n params (routine_of c n).registers D L t o → DefaultFits c depth busy n site o → OfSome (Each (λ f. HasParts f.parts)) o
      → IsSiteOf c n switch → InRange site (default_parts o) → (u : ℕ) → GoodCases c depth busy n u (last_case t switch site L o)
  good_last D switch site L None h f w k s u = k
  good_last D switch site L (Some fs) h f w k s u = good_fields D site L fs h f w s

  good_cases : (D switch site L : ℕ) (cs : List Case) (o : Option (List Field)) → suc t + 1 < (routine_of c n).registers → CasesPlaced n params (routine_of c n).registers D L t cs → DefaultPlaced n params (routine_of c n).registers D L t o → CasesFit c depth busy n site cs o
      → Each (λ x. Each (λ f. HasParts f.parts) x.fields) cs → OfSome (Each (λ f. HasParts f.parts)) o
      → IsSiteOf c n switch → InRange site (cases_parts cs + default_parts o) → GoodCases c depth busy n (suc t) (cases_of t switch site L cs o)
  good_cases D switch site L [] o r h d f w v k s = good_last D switch site L o d f v k (s.0, omega (arith, s.1)) (suc t)
  good_cases D switch site L (x ∷ cs) o r h d f w v k s =
      (r, good_fields D site L x.fields h.0 f.0 w.0 (s.0, omega (arith, s.1)), good_cases D switch (parts_in x.fields + site) L cs o r h.1 d f.1 w.1 v k (omega (arith, s.0), omega (arith, s.1)))

  good_body : (D switch site L : ℕ) (b : BodyDef) → BodyPlaced n params (routine_of c n).registers D L t b → BodyFits c depth busy n site b → EachField (λ f. HasParts f.parts) b
      → IsSiteOf c n switch → InRange site (body_parts b) → GoodBody c depth busy n (body_of t switch site L b)
  good_body D switch site L (StructDef fs) h f w k s = good_fields D site L fs h f w s
  good_body D switch site L (CasetypeDef e cases o) h f w k s = (h.0.1.1.1, good_cases D switch site L cases o h.0.0 h.1.0 h.1.1 f w.0 w.1 k s)

  good_guard : (L site : ℕ) (o : Option Term) (b : Body) → OptionExpr (routine_of c n).registers L (suc t) o → IsSiteOf c n site → GoodBody c depth busy n b → GoodBody c depth busy n (guarded_body t site o b)
  good_guard L site None b h s g = g
  good_guard L site (Some e) b h s g = (room, h.1.1, s, g)

  pub good_definition : (ds : List TypeDef) (first : ℕ) (d : TypeDef) → OptionExpr (routine_of c n).registers (length d.params) (suc t) d.guard → BodyPlaced n params (routine_of c n).registers t (length d.params) t d.body
      → BodyFits c depth busy n (first + 2) d.body → EachField (λ f. HasParts f.parts) d.body → InRange first (2 + body_parts d.body)
      → GoodBody c depth busy n (definition_body first t d)
  good_definition ds first d g h f w s =
      good_guard (length d.params) first d.guard _ g (own first s.0 (omega (arith, s.1))) (good_body t (first + 1) (first + 2) (length d.params) d.body h f w (own (first + 1) (omega (arith, s.0)) (omega (arith, s.1))) (omega (arith, s.0), omega (arith, s.1)))
