-- What is known of a module of the shape of that of descriptors.
use Rattle.std.proofs.Common.{◌≡◌, ℕ, ◌<◌, ◌≤◌, ◌^◌, Bool, true, false, ◌&&◌, List, [], ◌∷◌, ◌++◌, length, slice_get, slice_index, slice_set, Option, Some, None, refl, sym, ap, ◌∙◌, subst, arith}
use Rattle.std.specs.Prelude.{ℤ, pos, ◌-ℤ◌, int_lt}
use Rattle.std.proofs.lemmas.Bool.{eqb-true, false≢true}
use Rattle.td_num.proofs.Truths.{both_true}
use Rattle.td_descr.specs.Imports.{NumberType, Width, One, Two, Four, Eight, ByteOrder, LittleEndian, BigEndian, Equal, NotEqual, Less, LessEqual, Greater, GreaterEqual, Add, Subtract, Multiply, Divide, Remainder, BitAnd, BitOr, BitXor, ShiftLeft, ShiftRight, Element, Extent, Once, Filling, OnceFilling, UpToZero, Given, Bits, Buffer, CopyOut, Part, Field, Param, Cell, Body, Struct, Casetype, TypeDef}
use Rattle.td_core.specs.Term.{Term, number, name, complement, negation, compute, compare, both, either, choice, range_okay, Deed, done, set, keep, fork, answer, give_up}
use Rattle.td_core.specs.declared.module.Element.TheVariants as element
use Rattle.td_core.specs.Entries.{definition_at}
use Rattle.td_core.specs.Formed.{AllFit, scalar_of, param_bounds, cell_bounds, params_at, cells_at, whole as bound_of}
use Rattle.td_core.specs.Outcome.{accepted}
use Rattle.td_expr.specs.Value.{value_of, natural, number_of, flip, both_of}
use Rattle.td_meaning.specs.Doing.{doing, On}
use Rattle.td_meaning.specs.Meaning.{acted, ended}
use Rattle.td_meaning.specs.Copies.{buffers_at}
use Rattle.td_descr.specs.Format.{any_field}
use Rattle.td_descr.specs.Shape.{is_level, is_rest, is_left, is_up_to, is_fit, is_done, is_delivery, delivered, undone, untested, is_four, is_two, is_little, holds, kept, whole, alone, is_number, are_fields, is_struct, is_only, is_first, are_params, are_cells, are_no_buffers, ShapeFits, ShapeHasNoBuffers}

-- ---- values
abbrev at : List ℕ → ℕ → ℤ
at env level = pos (slice_index env level)

pub level_value : (level : ℕ) (e : Term) (env : List ℕ) → is_level level e ≡ true → value_of e env ≡ at env level
level_value level (name i s m) env h = ap (at env) (eqb-true i level h)
level_value level (number n s) env h = absurd (false≢true h)
level_value level (complement a) env h = absurd (false≢true h)
level_value level (negation a) env h = absurd (false≢true h)
level_value level (compute op sp a b) env h = absurd (false≢true h)
level_value level (compare r a b) env h = absurd (false≢true h)
level_value level (both a b) env h = absurd (false≢true h)
level_value level (either a b) env h = absurd (false≢true h)
level_value level (choice c a b) env h = absurd (false≢true h)
level_value level (range_okay s o a) env h = absurd (false≢true h)

rest_value : (e : Term) (env : List ℕ) → is_rest e ≡ true → value_of e env ≡ at env 0 -ℤ at env 2
rest_value (compute Subtract sp a b) env h =
    let both = both_true (is_level 0 a) (is_level 2 b) h in
    let x = level_value 0 a env both.0 in
    let y = level_value 2 b env both.1 in
    λ i. x i -ℤ y i
rest_value (compute Add sp a b) env h = absurd (false≢true h)
rest_value (compute Multiply sp a b) env h = absurd (false≢true h)
rest_value (compute Divide sp a b) env h = absurd (false≢true h)
rest_value (compute Remainder sp a b) env h = absurd (false≢true h)
rest_value (compute BitAnd sp a b) env h = absurd (false≢true h)
rest_value (compute BitOr sp a b) env h = absurd (false≢true h)
rest_value (compute BitXor sp a b) env h = absurd (false≢true h)
rest_value (compute ShiftLeft sp a b) env h = absurd (false≢true h)
rest_value (compute ShiftRight sp a b) env h = absurd (false≢true h)
rest_value (number n s) env h = absurd (false≢true h)
rest_value (name i s m) env h = absurd (false≢true h)
rest_value (complement a) env h = absurd (false≢true h)
rest_value (negation a) env h = absurd (false≢true h)
rest_value (compare r a b) env h = absurd (false≢true h)
rest_value (both a b) env h = absurd (false≢true h)
rest_value (either a b) env h = absurd (false≢true h)
rest_value (choice c a b) env h = absurd (false≢true h)
rest_value (range_okay s o a) env h = absurd (false≢true h)

pub up_to_value : (one other : ℕ) (e : Term) (env : List ℕ) → is_up_to one other e ≡ true → value_of e env ≡ number_of (flip (int_lt (at env other) (at env one)))
up_to_value one other (compare LessEqual a b) env h =
    let both = both_true (is_level one a) (is_level other b) h in
    let x = level_value one a env both.0 in
    let y = level_value other b env both.1 in
    λ i. number_of (flip (int_lt (y i) (x i)))
up_to_value one other (compare Equal a b) env h = absurd (false≢true h)
up_to_value one other (compare NotEqual a b) env h = absurd (false≢true h)
up_to_value one other (compare Less a b) env h = absurd (false≢true h)
up_to_value one other (compare Greater a b) env h = absurd (false≢true h)
up_to_value one other (compare GreaterEqual a b) env h = absurd (false≢true h)
up_to_value one other (number n s) env h = absurd (false≢true h)
up_to_value one other (name i s m) env h = absurd (false≢true h)
up_to_value one other (complement a) env h = absurd (false≢true h)
up_to_value one other (negation a) env h = absurd (false≢true h)
up_to_value one other (compute op sp a b) env h = absurd (false≢true h)
up_to_value one other (both a b) env h = absurd (false≢true h)
up_to_value one other (either a b) env h = absurd (false≢true h)
up_to_value one other (choice c a b) env h = absurd (false≢true h)
up_to_value one other (range_okay s o a) env h = absurd (false≢true h)

left_value : (e : Term) (env : List ℕ) → is_left e ≡ true → value_of e env ≡ number_of (flip (int_lt (at env 0 -ℤ at env 2) (at env 3)))
left_value (compare LessEqual a b) env h =
    let both = both_true (is_level 3 a) (is_rest b) h in
    let x = level_value 3 a env both.0 in
    let y = rest_value b env both.1 in
    λ i. number_of (flip (int_lt (y i) (x i)))
left_value (compare Equal a b) env h = absurd (false≢true h)
left_value (compare NotEqual a b) env h = absurd (false≢true h)
left_value (compare Less a b) env h = absurd (false≢true h)
left_value (compare Greater a b) env h = absurd (false≢true h)
left_value (compare GreaterEqual a b) env h = absurd (false≢true h)
left_value (number n s) env h = absurd (false≢true h)
left_value (name i s m) env h = absurd (false≢true h)
left_value (complement a) env h = absurd (false≢true h)
left_value (negation a) env h = absurd (false≢true h)
left_value (compute op sp a b) env h = absurd (false≢true h)
left_value (both a b) env h = absurd (false≢true h)
left_value (either a b) env h = absurd (false≢true h)
left_value (choice c a b) env h = absurd (false≢true h)
left_value (range_okay s o a) env h = absurd (false≢true h)

pub fit_value : (e : Term) (env : List ℕ) → is_fit e ≡ true
    → value_of e env ≡ both_of (number_of (flip (int_lt (at env 0 -ℤ at env 2) (at env 3)))) (number_of (flip (int_lt (at env 1) (at env 3))))
fit_value (both a b) env h =
    let two = both_true (is_left a) (is_up_to 3 1 b) h in
    let x = left_value a env two.0 in
    let y = up_to_value 3 1 b env two.1 in
    λ i. both_of (x i) (y i)
fit_value (number n s) env h = absurd (false≢true h)
fit_value (name i s m) env h = absurd (false≢true h)
fit_value (complement a) env h = absurd (false≢true h)
fit_value (negation a) env h = absurd (false≢true h)
fit_value (compute op sp a b) env h = absurd (false≢true h)
fit_value (compare r a b) env h = absurd (false≢true h)
fit_value (either a b) env h = absurd (false≢true h)
fit_value (choice c a b) env h = absurd (false≢true h)
fit_value (range_okay s o a) env h = absurd (false≢true h)

-- ---- actions
done_is : (d : Deed) → is_done d ≡ true → d ≡ done
done_is done h = refl
done_is (set c e then) h = absurd (false≢true h)
done_is (keep c then) h = absurd (false≢true h)
done_is (fork e one other then) h = absurd (false≢true h)
done_is (answer e) h = absurd (false≢true h)
done_is give_up h = absurd (false≢true h)

delivery_is : (cell level : ℕ) (d : Deed) (env places cells : List ℕ) → is_delivery cell level d ≡ true
    → doing d env places cells ≡ On (slice_set cells (slice_index places cell) (slice_index env level))
delivery_is cell level (set c e then) env places cells h =
    let first = both_true _ _ h in
    let rest = both_true (is_level level e) (is_done then) first.1 in
    let same = eqb-true c cell first.0 in
    let value = level_value level e env rest.0 in
    ap (λ d. doing d env places (slice_set cells (slice_index places c) (natural (value_of e env)))) (done_is then rest.1)
    ∙ (λ i. On (slice_set cells (slice_index places (same i)) (natural (value i))))
delivery_is cell level done env places cells h = absurd (false≢true h)
delivery_is cell level (keep c then) env places cells h = absurd (false≢true h)
delivery_is cell level (fork e one other then) env places cells h = absurd (false≢true h)
delivery_is cell level (answer e) env places cells h = absurd (false≢true h)
delivery_is cell level give_up env places cells h = absurd (false≢true h)

pub delivered_is : (cell level : ℕ) (action : Option Deed) (env places : List ℕ) (start q : ℕ) (cells : List ℕ) → delivered cell level action ≡ true
    → acted action env places start q cells ≡ accepted q (slice_set cells (slice_index places cell) (slice_index (env ++ start ∷ []) level))
delivered_is cell level None env places start q cells h = absurd (false≢true h)
delivered_is cell level (Some d) env places start q cells h = ap (λ e. ended e start q) (delivery_is cell level d (env ++ start ∷ []) places cells h)

pub undone_is : (action : Option Deed) (env places : List ℕ) (start q : ℕ) (cells : List ℕ) → undone action ≡ true → acted action env places start q cells ≡ accepted q cells
undone_is None env places start q cells h = refl
undone_is (Some d) env places start q cells h = absurd (false≢true h)

-- ---- fields
pub four_is : (w : Width) → is_four w ≡ true → w ≡ Four
four_is Four h = refl
four_is One h = absurd (false≢true h)
four_is Two h = absurd (false≢true h)
four_is Eight h = absurd (false≢true h)

pub two_is : (w : Width) → is_two w ≡ true → w ≡ Two
two_is Two h = refl
two_is One h = absurd (false≢true h)
two_is Four h = absurd (false≢true h)
two_is Eight h = absurd (false≢true h)

little_is : (o : ByteOrder) → is_little o ≡ true → o ≡ LittleEndian
little_is LittleEndian h = refl
little_is BigEndian h = absurd (false≢true h)

abbrev little : Width → NumberType
little w = record { width = w; order = LittleEndian }

holds_is : (w : Width) (width : Width → Bool) → ((x : Width) → width x ≡ true → x ≡ w) → (e : Element) (x : Extent) → holds width e x ≡ true → (e ≡ element.Number (little w)) × (x ≡ Once)
holds_is w width is (element.Number t) Once h =
    let both = both_true (width t.width) (is_little t.order) h in
    let a = is t.width both.0 in
    let b = little_is t.order both.1 in
    (λ i. element.Number (record { width = a i; order = b i }), refl)
holds_is w width is (element.Number t) (Filling size step) h = absurd (false≢true h)
holds_is w width is (element.Number t) (OnceFilling size step) h = absurd (false≢true h)
holds_is w width is (element.Number t) (UpToZero size) h = absurd (false≢true h)
holds_is w width is (element.Number t) (Given source) h = absurd (false≢true h)
holds_is w width is (element.Listed base values) x h = absurd (false≢true h)
holds_is w width is (element.Named definition args cells) x h = absurd (false≢true h)
holds_is w width is element.Unit x h = absurd (false≢true h)
holds_is w width is element.Rest x h = absurd (false≢true h)
holds_is w width is element.Zeros x h = absurd (false≢true h)

whole_is : (bits : Option Bits) → whole bits ≡ true → bits ≡ None
whole_is None h = refl
whole_is (Some bits) h = absurd (false≢true h)

alone_is : (is : Part → Bool) (parts : List Part) → alone is parts ≡ true → (p : Part) × (parts ≡ p ∷ []) × (p.bits ≡ None) × (is p ≡ true)
alone_is is [] h = absurd (false≢true h)
alone_is is (p ∷ []) h = let both = both_true (whole p.bits) (is p) h in (p, refl, whole_is p.bits both.0, both.1)
alone_is is (p ∷ q ∷ parts) h = absurd (false≢true h)

kept_is : (copy : Option CopyOut) → kept copy ≡ true → copy ≡ None
kept_is None h = refl
kept_is (Some c) h = absurd (false≢true h)

pub number_is : (w : Width) (width : Width → Bool) → ((x : Width) → width x ≡ true → x ≡ w) → (is : Part → Bool) (f : Field) → is_number width is f ≡ true
    → (p : Part) × (f ≡ any_field w p.name f.place p.refinement p.action) × (is p ≡ true)
number_is w width only is f h =
    let both = both_true (holds width f.element f.extent && kept f.copy) (alone is f.parts) h in
    let first = both_true (holds width f.element f.extent) (kept f.copy) both.0 in
    let e = holds_is w width only f.element f.extent first.0 in
    let c = kept_is f.copy first.1 in
    let a = alone_is is f.parts both.1 in
    let parts = a.1 ∙ ap (λ (bits : Option Bits). record a.0 { bits = bits } ∷ []) a.2 in
    (a.0, (λ i. record { element = e.0 i; extent = e.1 i; copy = c i; parts = parts i; place = f.place }), a.3)

-- ---- the module
pub untested_is : (e : Option Term) → untested e ≡ true → e ≡ None
untested_is None h = refl
untested_is (Some e) h = absurd (false≢true h)

struct_is : (body : Body) → is_struct body ≡ true → (fields : List Field) × (body ≡ Struct fields) × (are_fields fields ≡ true)
struct_is (Struct fields) h = (fields, refl, h)
struct_is (Casetype switch cases default) h = absurd (false≢true h)

abbrev pub plain_struct : TypeDef → List Field → TypeDef
plain_struct d fields = record d { guard = None; body = Struct fields }

pub only_is : (definitions : List TypeDef) → is_only definitions ≡ true → (d : TypeDef) × (fields : List Field) × (definitions ≡ plain_struct d fields ∷ []) × (are_fields fields ≡ true)
only_is [] h = absurd (false≢true h)
only_is (d ∷ []) h =
    let outer = both_true (untested d.guard && is_struct d.body) (are_params d.params && (are_cells d.cells && are_no_buffers d.buffers)) h in
    let both = both_true (untested d.guard) (is_struct d.body) outer.0 in
    let s = struct_is d.body both.1 in
    let g = untested_is d.guard both.0 in
    (d, s.0, (λ i. record d { guard = g i; body = s.1 i } ∷ []), s.2)
only_is (d ∷ e ∷ definitions) h = absurd (false≢true h)

pub first_is : (entries : List ℕ) → is_first entries ≡ true → slice_get entries 0 ≡ Some 0
first_is [] h = absurd (false≢true h)
first_is (e ∷ entries) h = ap Some (eqb-true e 0 h)

-- ---- values that fit
four_fits : (w : Width) (n : ℕ) → is_four w ≡ true → n < 2 ^ 32 → n ≤ (bound_of (scalar_of w)).most
four_fits Four n h lt = omega (arith, lt)
four_fits One n h lt = absurd (false≢true h)
four_fits Two n h lt = absurd (false≢true h)
four_fits Eight n h lt = absurd (false≢true h)

params_fit : (params : List Param) (room most : ℕ) → are_params params ≡ true → room < 2 ^ 32 → most < 2 ^ 32 → AllFit (param_bounds params) (room ∷ most ∷ [])
params_fit [] room most h a b = absurd (false≢true h)
params_fit (p ∷ []) room most h a b = absurd (false≢true h)
params_fit (p ∷ q ∷ []) room most h a b =
    let both = both_true (is_four p.width) (is_four q.width) h in
    (four_fits p.width room both.0 a, (four_fits q.width most both.1 b, tt))
params_fit (p ∷ q ∷ r ∷ params) room most h a b = absurd (false≢true h)

cells_fit : (cells : List Cell) → are_cells cells ≡ true → AllFit (cell_bounds cells) (0 ∷ 0 ∷ 0 ∷ [])
cells_fit [] h = absurd (false≢true h)
cells_fit (a ∷ []) h = absurd (false≢true h)
cells_fit (a ∷ b ∷ []) h = absurd (false≢true h)
cells_fit (a ∷ b ∷ c ∷ []) h = (omega arith, (omega arith, (omega arith, tt)))
cells_fit (a ∷ b ∷ c ∷ d ∷ cells) h = absurd (false≢true h)

abbrev FitAt : Option TypeDef → ℕ → ℕ → Type 0
FitAt d room most = AllFit (params_at d) (room ∷ most ∷ []) × AllFit (cells_at d) (0 ∷ 0 ∷ 0 ∷ [])

fit_at : (definitions : List TypeDef) (room most : ℕ) → is_only definitions ≡ true → room < 2 ^ 32 → most < 2 ^ 32 → FitAt (slice_get definitions 0) room most
fit_at [] room most h a b = absurd (false≢true h)
fit_at (d ∷ []) room most h a b =
    let outer = both_true (untested d.guard && is_struct d.body) (are_params d.params && (are_cells d.cells && are_no_buffers d.buffers)) h in
    let both = both_true (are_params d.params) (are_cells d.cells && are_no_buffers d.buffers) outer.1 in
    let cells = both_true (are_cells d.cells) (are_no_buffers d.buffers) both.1 in
    (params_fit d.params room most both.0 a b, cells_fit d.cells cells.0)
fit_at (d ∷ e ∷ definitions) room most h a b = absurd (false≢true h)

pub shape_fits : ShapeFits
shape_fits m h room most a b =
    let both = both_true (is_first m.entries) (is_only m.definitions) h in
    subst (λ (e : Option ℕ). FitAt (definition_at m e) room most) (sym (first_is m.entries both.0)) (fit_at m.definitions room most both.1 a b)

-- ---- copy buffers
none_listed : (buffers : List Buffer) → are_no_buffers buffers ≡ true → length buffers ≡ 0
none_listed [] h = refl
none_listed (b ∷ buffers) h = absurd (false≢true h)

none_at : (definitions : List TypeDef) → is_only definitions ≡ true → buffers_at (slice_get definitions 0) ≡ 0
none_at [] h = absurd (false≢true h)
none_at (d ∷ []) h =
    let outer = both_true (untested d.guard && is_struct d.body) (are_params d.params && (are_cells d.cells && are_no_buffers d.buffers)) h in
    let both = both_true (are_params d.params) (are_cells d.cells && are_no_buffers d.buffers) outer.1 in
    none_listed d.buffers (both_true (are_cells d.cells) (are_no_buffers d.buffers) both.1).1
none_at (d ∷ e ∷ definitions) h = absurd (false≢true h)

pub shape_has_no_buffers : ShapeHasNoBuffers
shape_has_no_buffers m h =
    let both = both_true (is_first m.entries) (is_only m.definitions) h in
    subst (λ (o : Option ℕ). buffers_at (definition_at m o) ≡ 0) (sym (first_is m.entries both.0)) (none_at m.definitions both.1)
