-- What is passed over without a look accepts, and changes nothing.
use Rattle.std.proofs.Common.{◌≡◌, ℕ, suc, ◌+◌, ◌<◌, ◌≤◌, Bool, true, false, Option, Some, None, List, [], ◌∷◌, ◌++◌, length, length-append, refl, sym, ap, ◌∙◌, subst, arith, inl, inr, ◌||◌}
use Rattle.std.specs.Prelude.{slice_get, is_some, nat_eq, IfSome}
use Rattle.std.proofs.lemmas.Bool.{cases_eq, cases_lt, eq-eqb}
use Rattle.std.proofs.lemmas.Option.{slice_get-get_or, slice_get_past}
use Rattle.std.proofs.lemmas.List.{get_or_append_left, get_or_push}
use Rattle.td_core.specs.Term.{Term, number}
use Rattle.td_direct.specs.Imports.{Scalar, NameId, Element, Number, Listed, Named, Unit as UnitElement, Rest, Zeros, Extent, Once, Filling, OnceFilling, UpToZero, Given, Part, Field, Struct, TypeDef, Module, Constraint, ListSize}
use Rattle.td_core.specs.declared.outcome.Spot.TheVariants.{Where}
use Rattle.td_core.specs.Outcome.{accepted, after_reading, and_then, within}
use Rattle.td_expr.specs.Naming.{names, deed_names}
use Rattle.td_meaning.specs.Naming.{in_option, part_names, parts_name, element_names, extent_names, field_names, fields_name, is_needed}
use Rattle.td_meaning.specs.Meaning.{demanded, filled, filled_once, divides, equals, field_place, number_places, first_name, extended}
use Rattle.td_meaning.specs.Words64.{value_of, is_met, below, body_fields, chosen_meaning, content_meaning, definition_meaning, element_meaning, shape_meaning, parts_meaning, with_part, acted, field_number, fields_meaning}
use Rattle.td_direct.specs.Arrays.{once_rest}
use Rattle.td_direct.specs.Passing.{IsPassed, AreSizes, passes_all, IsShapePassed, ArePlainParts, AreQuiet}
use Rattle.td_direct.proofs.TypeLemmas.{filled_fit, once_fit, window_pass}
use Rattle.td_meaning.proofs.Filling.{named_by}

-- Naming

either_false : (a b : Bool) → a ≡ false → b ≡ false → (a || b) ≡ false
either_false a b h k = ap (λ v. v || b) h ∙ k

plain_part_names : (i : ℕ) (p : Part) → p.refinement ≡ None → p.action ≡ None → part_names i p ≡ false
plain_part_names i p r a = λ k. in_option (names i) (r k) || in_option (deed_names i) (a k)

plain_parts_name : (i : ℕ) (ps : List Part) → ArePlainParts ps → parts_name i ps ≡ false
plain_parts_name i [] h = refl
plain_parts_name i (p ∷ ps) h = either_false (part_names i p) (parts_name i ps) (plain_part_names i p h.0.0 h.0.1) (plain_parts_name i ps h.1)

quiet_fields_name : (m : Module) (bound i : ℕ) (fs : List Field) (size : ℕ) → AreQuiet m bound fs size → fields_name i fs ≡ false
quiet_fields_name m bound i [] size h = refl
quiet_fields_name m bound i (f ∷ fs) size h =
    let q = h.one in
    either_false (field_names i f) (fields_name i fs)
    (either_false (element_names i f.element) (extent_names i f.extent || parts_name i f.parts) (q.element i) (either_false (extent_names i f.extent) (parts_name i f.parts) (q.extent i) (plain_parts_name i f.parts q.parts)))
    (quiet_fields_name m bound i fs h.rest h.others)

unneeded : (i : ℕ) (ps : List Part) (later : List Field) → ArePlainParts ps → ((i : ℕ) → fields_name i later ≡ false) → is_needed i ps later ≡ false
unneeded i [] later h k = refl
unneeded i (p ∷ ps) later h k =
    let more = fields_name i later || is_needed (suc i) ps later in
    (λ j. is_some (h.0.0 j) || (in_option (deed_names i) (h.0.1 j) || (parts_name i ps || more)))
    ∙ either_false (parts_name i ps) more (plain_parts_name i ps h.1) (either_false (fields_name i later) (is_needed (suc i) ps later) (k i) (unneeded (suc i) ps later h.1 k))

-- Parts and fields

parts_pass : (ty : NameId) (start n : ℕ) (ps : List Part) (env places : List ℕ) (q : ℕ) (cells : List ℕ) → ArePlainParts ps → parts_meaning ty start n ps env places q cells ≡ accepted q cells
unfolding parts_meaning is_met
parts_pass ty start n [] env places q cells h = refl
parts_pass ty start n (p ∷ ps) env places q cells h =
    (λ k. and_then (within (field_place ty p.name start) (and_then (demanded Constraint (is_met (h.0.0 k) (with_part env n p)) start q cells) (acted (h.0.1 k) (with_part env n p) places start))) (parts_meaning ty start n ps (with_part env n p) places))
    ∙ parts_pass ty start n ps (with_part env n p) places q cells h.1

nothing_read : (el : Element) (extent : Extent) (p : ℕ) → number_places false el extent p ≡ []
nothing_read (Number type) Once p = refl
nothing_read (Number type) (Filling size step) p = refl
nothing_read (Number type) (OnceFilling size step) p = refl
nothing_read (Number type) (UpToZero size) p = refl
nothing_read (Number type) (Given source) p = refl
nothing_read (Listed base k) extent p = refl
nothing_read (Named definition args own) extent p = refl
nothing_read UnitElement extent p = refl
nothing_read Rest extent p = refl
nothing_read Zeros extent p = refl

fields_pass : (m : Module) (bound : ℕ) (ty : NameId) (fs : List Field) (env places b : List ℕ) (end p size : ℕ) (cells : List ℕ) → AreQuiet m bound fs size → p + size ≤ end → fields_meaning m.listed (below m.listed m.definitions bound) ty fs env places b end p cells ≡ accepted (p + size) cells
unfolding fields_meaning
fields_pass m bound ty [] env places b end p size cells h room = let e : p ≡ p + size = omega (arith, h) in λ k. accepted (e k) cells
fields_pass m bound ty (f ∷ later) env places b end p size cells h room =
    let first = h.first in
    let rest = h.rest in
    let q = h.one in
    let sum = h.is in
    let n = field_number f.element f.extent env places b end p cells in
    let senses = below m.listed m.definitions bound in
    let fits : p + first ≤ end = omega (arith, room, sum) in
    let left : p + first + rest ≤ end = omega (arith, room, sum) in
    let at : p + first + rest ≡ p + size = omega (arith, sum) in
    let unread : is_needed (length env) f.parts later ≡ false = unneeded (length env) f.parts later q.parts (λ i. quiet_fields_name m bound i later rest h.others) in
    let go = λ (need : List ℕ) (r : ℕ) (c : List ℕ). after_reading need (and_then (parts_meaning ty p n f.parts env places r c) (fields_meaning m.listed senses ty later (extended env n f.parts) places b end)) in
    (λ k. and_then (within (field_place ty (first_name f.parts) p) (content_meaning m.listed senses f.element f.extent (q.copy k) env places b end p cells)) (go (number_places (is_needed (length env) f.parts later) f.element f.extent p)))
    ∙ (λ k. and_then (within (field_place ty (first_name f.parts) p) (q.shape env places b end p cells fits k)) (go (number_places (unread k) f.element f.extent p)))
    ∙ (λ k. go (nothing_read f.element f.extent p k) (p + first) cells)
    ∙ (λ k. and_then (parts_pass ty p n f.parts env places (p + first) cells q.parts k) (fields_meaning m.listed senses ty later (extended env n f.parts) places b end))
    ∙ fields_pass m bound ty later (extended env n f.parts) places b end (p + first) rest cells h.others left
    ∙ (λ k. accepted (at k) cells)

-- a struct without a `where`
pub struct_pass : (m : Module) (bound : ℕ) (d : TypeDef) (fs : List Field) (size : ℕ) → d.guard ≡ None → d.body ≡ Struct fs → AreQuiet m bound fs size → (args places cells b : List ℕ) (p end : ℕ) → p + size ≤ end → definition_meaning m.listed (below m.listed m.definitions bound) (Some d) args places cells b p end ≡ accepted (p + size) cells
unfolding is_met
struct_pass m bound d fs size g s h args places cells b p end room =
    let senses = below m.listed m.definitions bound in
    (λ k. and_then (within (record { ty = d.name; field = Where; start = p }) (demanded Constraint (is_met (g k) args) p p cells)) (chosen_meaning m.listed senses d.name (body_fields (s k) args) args places b end))
    ∙ fields_pass m bound d.name fs args places b end p size cells h room

-- What stands in a field

pub once_pass : (m : Module) (bound : ℕ) (el : Element) (extent : Extent) (size : ℕ) → extent ≡ Once → IsPassed m bound el size → IsShapePassed m bound el extent size
once_pass m bound el extent size e h = λ env places b end p cells room. ap (λ (x : Extent). shape_meaning m.listed (below m.listed m.definitions bound) el x env places b end p cells) e ∙ h env places b p end p cells room

literal_is : (n : ℕ) (w : Scalar) (e : Term) (env : List ℕ) → e ≡ number n w → value_of e env ≡ n
unfolding value_of
literal_is n w e env is = ap (λ t. value_of t env) is

pub filled_pass : (m : Module) (bound : ℕ) (el : Element) (extent : Extent) (size : Term) (step o : Option ℕ) (n : ℕ) (w : Scalar) → extent ≡ Filling size step → size ≡ number n w → divides step n ≡ true → passes_all o n ≡ true → ((w : ℕ) → o ≡ Some w → IsPassed m bound el w) → IsShapePassed m bound el extent n
filled_pass m bound el extent size step o n w e s d t h = λ env places b end p cells room.
    let each = element_meaning m.listed (below m.listed m.definitions bound) el env places b p in
    ap (λ (x : Extent). shape_meaning m.listed (below m.listed m.definitions bound) el x env places b end p cells) e
    ∙ ap (λ k. filled each step k end p cells) (literal_is n w size env s)
    ∙ filled_fit each step n end p cells room d
    ∙ window_pass (each (p + n)) o n p (p + n) p cells (λ w is q r. h w is env places b p (p + n) q cells r) t refl

pub once_filled_pass : (m : Module) (bound : ℕ) (el : Element) (extent : Extent) (size : Term) (step : Option ℕ) (n : ℕ) (w : Scalar) → extent ≡ OnceFilling size step → size ≡ number n w → equals step n ≡ true → IsPassed m bound el n → IsShapePassed m bound el extent n
once_filled_pass m bound el extent size step n w e s d h = λ env places b end p cells room.
    let each = element_meaning m.listed (below m.listed m.definitions bound) el env places b p in
    let inside : p + n ≤ p + n = omega arith in
    let same : nat_eq (p + n) (p + n) ≡ true = eq-eqb (p + n) (p + n) refl in
    ap (λ (x : Extent). shape_meaning m.listed (below m.listed m.definitions bound) el x env places b end p cells) e
    ∙ ap (λ k. filled_once each step k end p cells) (literal_is n w size env s)
    ∙ once_fit each step n end p cells room d
    ∙ ap (λ x. and_then x (once_rest p (p + n))) (h env places b p (p + n) p cells inside)
    ∙ ap (λ v. demanded ListSize v p (p + n) cells) same

pub literal_names : (n i : ℕ) (w : Scalar) (e : Term) → e ≡ number n w → names i e ≡ false
literal_names n i w e is = ap (names i) is

-- The sizes of one definition more

pub sizes_more : (m : Module) (sizes : List (Option ℕ)) (o : Option ℕ) (d : TypeDef) (place : ℕ) → length sizes ≡ place → AreSizes m sizes → slice_get m.definitions place ≡ Some d
    → IfSome o (λ size. (args places cells b : List ℕ) (p end : ℕ) → p + size ≤ end → definition_meaning m.listed (below m.listed m.definitions place) (Some d) args places cells b p end ≡ accepted (p + size) cells)
    → AreSizes m (sizes ++ o ∷ [])
sizes_more m sizes o d place long h it passes = λ j size e bound lt args places cells b p end room. elim (cases_lt j (length sizes)) [
  | inl low ↦ h j size (sym (get_low sizes o j low) ∙ e) bound lt args places cells b p end room
  | inr high ↦ elim (cases_eq (length sizes) j) [
    | inl same ↦
        let some : o ≡ Some size = unwrapped o size (sym (get_here sizes o j same) ∙ e) in
        let at : j ≡ place = sym same ∙ long in
        let there : slice_get m.definitions j ≡ Some d = (λ k. slice_get m.definitions (at k)) ∙ it in
        named_by m.listed m.definitions bound j (Some d) args places cells b p end lt there
        ∙ (λ k. definition_meaning m.listed (below m.listed m.definitions (at k)) (Some d) args places cells b p end)
        ∙ subst (λ (o : Option ℕ). IfSome o (λ size. (args places cells b : List ℕ) (p end : ℕ) → p + size ≤ end → definition_meaning m.listed (below m.listed m.definitions place) (Some d) args places cells b p end ≡ accepted (p + size) cells)) some passes args places cells b p end room
    | inr apart ↦ absurd (past sizes o j size (omega (arith, high, apart)) e)
  ]
]
  where
    get_low : (xs : List (Option ℕ)) (o : Option ℕ) (j : ℕ) → j < length xs → slice_get (xs ++ o ∷ []) j ≡ slice_get xs j
    get_low xs o j lt =
        let low : j < length (xs ++ o ∷ []) = omega (arith, lt, length-append xs (o ∷ [])) in
        slice_get-get_or (xs ++ o ∷ []) j None low ∙ ap Some (get_or_append_left xs (o ∷ []) None j lt) ∙ sym (slice_get-get_or xs j None lt)

    get_here : (xs : List (Option ℕ)) (o : Option ℕ) (j : ℕ) → length xs ≡ j → slice_get (xs ++ o ∷ []) j ≡ Some o
    get_here xs o j e =
        let low : j < length (xs ++ o ∷ []) = omega (arith, e, length-append xs (o ∷ [])) in
        slice_get-get_or (xs ++ o ∷ []) j None low ∙ ap Some (get_or_push xs o None j e)

    flat : Option (Option ℕ) → Option ℕ
    flat None = None
    flat (Some o) = o

    unwrapped : (o : Option ℕ) (size : ℕ) → Some o ≡ Some (Some size) → o ≡ Some size
    unwrapped o size e = ap flat e

    past : (xs : List (Option ℕ)) (o : Option ℕ) (j size : ℕ) → length xs < j → slice_get (xs ++ o ∷ []) j ≡ Some (Some size) → ⊥
    past xs o j size lt e =
        let high : length (xs ++ o ∷ []) ≤ j = omega (arith, lt, length-append xs (o ∷ [])) in
        let none : None ≡ Some (Some size) = sym (slice_get_past (xs ++ o ∷ []) j high) ∙ e in cc

pub if_some_map : (o : Option ℕ) (P Q : ℕ → Type 0) → IfSome o P → ((n : ℕ) → P n → Q n) → IfSome o Q
if_some_map None P Q h k = h
if_some_map (Some n) P Q h k = k n h
