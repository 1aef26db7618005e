-- Cited by other crates.
-- Where each expression that the meaning evaluates is sound, the meaning is the one that arithmetic in 64 bits gives.
use Rattle.std.proofs.Common.{◌≡◌, ℕ, zero, suc, ◌≤◌, min, ℤ, pos, negsuc, nat_lt, subst, arith, Bool, true, false, cond, List, [], ◌∷◌, ◌++◌, length, map, Option, Some, None, refl, ap, ◌∙◌}
use Rattle.std.proofs.lemmas.Bool.{ltb-true, ltb-false}
use Rattle.std.specs.Prelude.{◌-ℤ◌, slice_get, slice_index, slice_set, nat_eq}
use Rattle.td_num.specs.Numbers.{places_from}
use Rattle.td_meaning.specs.Imports.{Scalar, ThirtyTwo, NameId, Element, Number, Listed, Named, Unit as UnitElement, Rest, Zeros, CopyOut, Extent, Once, Filling, OnceFilling, UpToZero, Given, Source, Expression, FromCell, Left, Part, Field, Body, Struct, Casetype, TypeDef, Module, Entry, Constraint, ListSize}
use Rattle.td_core.specs.Types.{wider, type_of}
use Rattle.td_core.specs.Term.{Term, Deed, done, set, keep, fork, answer, give_up}
use Rattle.td_core.specs.Outcome.{Ending, Accepted, Rejected, Behavior, accepted, after_reading, onward, and_then, within}
use Rattle.td_expr.specs.Value.{natural, value_of as whole_value}
use Rattle.td_expr.specs.Sound.{FitsScalar, Sound}
use Rattle.td_meaning.specs.Doing.{Effect, On, Returned, Aborted, after, either_way, natural_of, is_true}
use Rattle.td_meaning.specs.Doing as whole
use Rattle.td_meaning.specs.Naming.{is_needed}
use Rattle.td_meaning.specs.Meaning.{Sense, taken, demanded, elements, filled, filled_once, element_up_to_zero, divides, equals, ended, refined, field_place, number_places, first_name, extended, case_for, where_place, pick, entry_place, with_copy}
use Rattle.td_meaning.specs.Meaning as whole_of
use Rattle.td_meaning.specs.Throughout.{Through, OnEnding, OnEffect, OnOption, OnAll, OnDeed, OnAction, OnParts, OnElement, OnElements, OnSource, OnShape, OnContent, spare, OnFields, OnChosen, OnBody, OnDefinition, pick_through, through_below, Throughout}
use Rattle.td_meaning.specs.Words64.{values, is_met, doing, acted, checked, with_part, parts_meaning, element_meaning, shape_meaning, copied_meaning, content_meaning, given_value, field_number, fields_meaning, body_fields, chosen_meaning, definition_meaning, below}
use Rattle.td_meaning.proofs.Ending.{on_map, on_within}
use Rattle.td_meaning.proofs.Values64.{natural_is, truth_is}
use Rattle.td_num.proofs.Equals.{minus_under}

-- One after the other

onward_is : (o : Ending) (reads : List ℕ) (go next : ℕ → List ℕ → Behavior) → OnEnding o (λ q cells. go q cells ≡ next q cells) → onward o reads go ≡ onward o reads next
onward_is (Accepted q cells) reads go next h = ap (after_reading reads) h
onward_is (Rejected reason position trace cells) reads go next h = refl

and_then_is : (t u : Behavior) (go next : ℕ → List ℕ → Behavior) → t ≡ u → OnEnding u.ending (λ q cells. go q cells ≡ next q cells) → and_then t go ≡ and_then u next
and_then_is t u go next e h = ap (λ t. and_then t go) e ∙ onward_is u.ending u.reads go next h

-- Expressions and actions

pub values_is : (es : List Term) (env : List ℕ) → OnAll Sound es env → values es env ≡ whole_of.values es env
values_is [] env h = refl
values_is (e ∷ es) env h = λ i. natural_is e env h.0 i ∷ values_is es env h.1 i

pub refined_is : (o : Option Term) (env : List ℕ) (start q : ℕ) (cells : List ℕ) → OnOption Sound o env → demanded Constraint (is_met o env) start q cells ≡ refined o env start q cells
unfolding is_met
refined_is None env start q cells h = refl
refined_is (Some e) env start q cells h = ap (λ b. demanded Constraint b start q cells) (truth_is e env h)

after_is : (o : Effect) (go next : List ℕ → Effect) → OnEffect o (λ cells. go cells ≡ next cells) → after o go ≡ after o next
after_is (On cells) go next h = h
after_is (Returned value cells) go next h = refl
after_is (Aborted cells) go next h = refl

on_effect_map : (o : Effect) (P Q : List ℕ → Type 0) → OnEffect o P → ((cells : List ℕ) → P cells → Q cells) → OnEffect o Q
on_effect_map (On cells) P Q h k = k cells h
on_effect_map (Returned value cells) P Q h k = tt
on_effect_map (Aborted cells) P Q h k = tt

branch_is : (b : Bool) (x y v w : Effect) → (b ≡ true → x ≡ v) → (b ≡ false → y ≡ w) → either_way b x y ≡ either_way b v w
branch_is true x y v w h k = h refl
branch_is false x y v w h k = k refl

doing_is : (d : Deed) (env places cells : List ℕ) → OnDeed Sound d env places cells → doing d env places cells ≡ whole.doing d env places cells
doing_is done env places cells h = refl
doing_is (set cell e then) env places cells h =
    (λ i. doing then env places (slice_set cells (slice_index places cell) (natural_is e env h.0 i)))
    ∙ doing_is then env places (slice_set cells (slice_index places cell) (natural_of e env)) h.1
doing_is (keep cell then) env places cells h = doing_is then (env ++ slice_index cells (slice_index places cell) ∷ []) places cells h
doing_is (fork e one other then) env places cells h =
    let b = is_true e env in
    let o = either_way b (whole.doing one env places cells) (whole.doing other env places cells) in
    (λ i. after (either_way (truth_is e env h.0 i) (doing one env places cells) (doing other env places cells)) (doing then env places))
    ∙ ap (λ x. after x (doing then env places)) (branch_is b (doing one env places cells) (doing other env places cells) (whole.doing one env places cells) (whole.doing other env places cells) (λ t. doing_is one env places cells (h.1.0.0 t)) (λ t. doing_is other env places cells (h.1.0.1 t)))
    ∙ after_is o (doing then env places) (whole.doing then env places) (on_effect_map o (OnDeed Sound then env places) (λ cells. doing then env places cells ≡ whole.doing then env places cells) h.1.1 (λ cells k. doing_is then env places cells k))
doing_is (answer e) env places cells h = λ i. Returned (truth_is e env h i) cells
doing_is give_up env places cells h = refl

acted_is : (o : Option Deed) (env places : List ℕ) (start q : ℕ) (cells : List ℕ) → OnAction Sound o env places start cells → acted o env places start q cells ≡ whole_of.acted o env places start q cells
acted_is None env places start q cells h = refl
acted_is (Some d) env places start q cells h = ap (λ o. ended o start q) (doing_is d (env ++ start ∷ []) places cells h)

-- Parts

pub checked_is : (x : Part) (env places : List ℕ) (start q : ℕ) (cells : List ℕ) → OnOption Sound x.refinement env → OnEnding (refined x.refinement env start q cells).ending (λ q cells. OnAction Sound x.action env places start cells) → checked x env places start q cells ≡ whole_of.checked x env places start q cells
checked_is x env places start q cells h k =
    let u = refined x.refinement env start q cells in
    and_then_is (demanded Constraint (is_met x.refinement env) start q cells) u (acted x.action env places start) (whole_of.acted x.action env places start)
    (refined_is x.refinement env start q cells h)
    (on_map u.ending (λ q cells. OnAction Sound x.action env places start cells) (λ q cells. acted x.action env places start q cells ≡ whole_of.acted x.action env places start q cells) k (λ q cells a. acted_is x.action env places start q cells a))

pub parts_is : (ty : NameId) (start n : ℕ) (parts : List Part) (env places : List ℕ) (q : ℕ) (cells : List ℕ) → OnParts Sound start n parts env places q cells → parts_meaning ty start n parts env places q cells ≡ whole_of.parts_meaning ty start n parts env places q cells
unfolding parts_meaning whole_of.parts_meaning
parts_is ty start n [] env places q cells h = refl
parts_is ty start n (x ∷ xs) env places q cells h =
    let env1 = with_part env n x in
    let place = field_place ty x.name start in
    let u = whole_of.checked x env1 places start q cells in
    let go = parts_meaning ty start n xs env1 places in
    let next = whole_of.parts_meaning ty start n xs env1 places in
    and_then_is (within place (checked x env1 places start q cells)) (within place u) go next
    (ap (within place) (checked_is x env1 places start q cells h.0 h.1.0))
    (on_within place u.ending (λ q cells. go q cells ≡ next q cells) (on_map u.ending (OnParts Sound start n xs env1 places) (λ q cells. go q cells ≡ next q cells) h.1.1 (λ q cells k. parts_is ty start n xs env1 places q cells k)))

-- Copies

at_most : (w : Scalar) (r : ℕ) (z : ℤ) → FitsScalar w (pos r -ℤ z) → natural z ≤ r
at_most w r (negsuc n) h = omega arith
at_most w r (pos n) h = by (nat_lt r n) refl
  where
    by : (c : Bool) → nat_lt r n ≡ c → n ≤ r
    by true e = absurd (subst (FitsScalar w) (minus_under r n (ltb-true r n e)) h)
    by false e = ltb-false r n e

-- a size has room where the room less it is in range
pub has_room : (c : CopyOut) (size : Term) (env : List ℕ) → Sound (spare c size) env → natural_of size env ≤ c.room
has_room c size env h = at_most (wider ThirtyTwo (type_of size)) c.room (whole_value size env) h.0

-- Elements and arrays

pub record Same (senses means : ℕ → Sense) (throughs : ℕ → Through) : Type 0 where
  pub by : (j : ℕ) (args places cells message : List ℕ) (p end : ℕ) → throughs j args places cells message p end → senses j args places cells message p end ≡ means j args places cells message p end

elements_is : (through : ℕ → List ℕ → Type 0) (each means : ℕ → List ℕ → Behavior) → ((q : ℕ) (cells : List ℕ) → through q cells → each q cells ≡ means q cells) → (turns start end p : ℕ) (cells : List ℕ) → OnElements Sound through means turns end p cells → elements each turns start end p cells ≡ elements means turns start end p cells
unfolding elements
elements_is through each means is zero start end p cells h = refl
elements_is through each means is (suc turns) start end p cells h = by (nat_eq p end) h (λ q more k. elements_is through each means is turns start end q more k)
  where
    by : (v : Bool) → (v ≡ false → through p cells × OnEnding (means p cells).ending (OnElements Sound through means turns end)) → ((q : ℕ) (more : List ℕ) → OnElements Sound through means turns end q more → elements each turns start end q more ≡ elements means turns start end q more)
        → cond v (accepted p cells) (and_then (each p cells) (elements each turns start end)) ≡ cond v (accepted p cells) (and_then (means p cells) (elements means turns start end))
    by true h later = refl
    by false h later =
        let k = h refl in
        and_then_is (each p cells) (means p cells) (elements each turns start end) (elements means turns start end) (is p cells k.0)
        (on_map (means p cells).ending (OnElements Sound through means turns end) (λ q more. elements each turns start end q more ≡ elements means turns start end q more) k.1 later)

module _ (sets : List (List ℕ)) (senses means : ℕ → Sense) (throughs : ℕ → Through) (same : Same senses means throughs) where
  element_is : (el : Element) (env places message : List ℕ) (start end p : ℕ) (cells : List ℕ) → OnElement Sound throughs el env places message end p cells → element_meaning sets senses el env places message start end p cells ≡ whole_of.element_meaning sets means el env places message start end p cells
  element_is (Number type) env places message start end p cells h = refl
  element_is (Listed base k) env places message start end p cells h = refl
  element_is (Named j args own) env places message start end p cells h =
      (λ i. senses j (values_is args env h.0 i) (map (slice_index places) own) cells message p end)
      ∙ same.by j (whole_of.values args env) (map (slice_index places) own) cells message p end h.1
  element_is UnitElement env places message start end p cells h = refl
  element_is Rest env places message start end p cells h = refl
  element_is Zeros env places message start end p cells h = refl

  shape_is : (el : Element) (extent : Extent) (env places message : List ℕ) (end p : ℕ) (cells : List ℕ) → OnShape Sound sets means throughs el extent env places message end p cells → shape_meaning sets senses el extent env places message end p cells ≡ whole_of.shape_meaning sets means el extent env places message end p cells
  shape_is el Once env places message end p cells h = element_is el env places message p end p cells h
  shape_is el (Filling size step) env places message end p cells h =
      let n = natural_of size env in
      let each = λ (q : ℕ). element_meaning sets senses el env places message p q in
      let means' = λ (q : ℕ). whole_of.element_meaning sets means el env places message p q in
      let through = λ (q : ℕ). OnElement Sound throughs el env places message q in
      let t = taken n p end p cells in
      let d = λ (c : List ℕ). demanded ListSize (divides step n) p p c in
      let goal = λ (q : ℕ) (c : List ℕ). and_then (d c) (elements (each q) (suc n) p q) ≡ and_then (d c) (elements (means' q) (suc n) p q) in
      (λ i. filled each step (natural_is size env h.0 i) end p cells)
      ∙ onward_is t.ending t.reads (λ q c. and_then (d c) (elements (each q) (suc n) p q)) (λ q c. and_then (d c) (elements (means' q) (suc n) p q))
      (on_map t.ending (λ q c. OnEnding (d c).ending (OnElements Sound (through q) (means' q) (suc n) q)) goal h.1
      (λ q c k. onward_is (d c).ending (d c).reads (elements (each q) (suc n) p q) (elements (means' q) (suc n) p q)
      (on_map (d c).ending (OnElements Sound (through q) (means' q) (suc n) q) (λ r e. elements (each q) (suc n) p q r e ≡ elements (means' q) (suc n) p q r e) k
      (λ r e o. elements_is (through q) (each q) (means' q) (λ s f z. element_is el env places message p q s f z) (suc n) p q r e o))))
  shape_is el (OnceFilling size step) env places message end p cells h =
      let n = natural_of size env in
      let each = λ (q : ℕ). element_meaning sets senses el env places message p q in
      let means' = λ (q : ℕ). whole_of.element_meaning sets means el env places message p q in
      let through = λ (q : ℕ). OnElement Sound throughs el env places message q in
      let t = taken n p end p cells in
      let d = λ (c : List ℕ). demanded ListSize (equals step n) p p c in
      let rest = λ (q r : ℕ) (c : List ℕ). demanded ListSize (nat_eq r q) p r c in
      let goal = λ (q : ℕ) (c : List ℕ). and_then (d c) (λ b e. and_then (each q b e) (rest q)) ≡ and_then (d c) (λ b e. and_then (means' q b e) (rest q)) in
      (λ i. filled_once each step (natural_is size env h.0 i) end p cells)
      ∙ onward_is t.ending t.reads (λ q c. and_then (d c) (λ b e. and_then (each q b e) (rest q))) (λ q c. and_then (d c) (λ b e. and_then (means' q b e) (rest q)))
      (on_map t.ending (λ q c. OnEnding (d c).ending (through q)) goal h.1
      (λ q c k. onward_is (d c).ending (d c).reads (λ b e. and_then (each q b e) (rest q)) (λ b e. and_then (means' q b e) (rest q))
      (on_map (d c).ending (through q) (λ b e. and_then (each q b e) (rest q) ≡ and_then (means' q b e) (rest q)) k
      (λ b e o. ap (λ x. and_then x (rest q)) (element_is el env places message p q b e o)))))
  shape_is el (UpToZero size) env places message end p cells h = λ i. element_up_to_zero el (natural_is size env h i) message end p cells
  shape_is el (Given source) env places message end p cells h = refl

  content_is : (el : Element) (extent : Extent) (copy : Option CopyOut) (env places message : List ℕ) (end p : ℕ) (cells : List ℕ) → OnContent Sound sets means throughs el extent copy env places message end p cells
      → content_meaning sets senses el extent copy env places message end p cells ≡ whole_of.content_meaning sets means el extent copy env places message end p cells
  content_is el extent None env places message end p cells h = shape_is el extent env places message end p cells h
  content_is el (Filling size step) (Some c) env places message end p cells h =
      let n = natural_of size env in
      let e : min n c.room ≡ n = omega (arith, has_room c size env h.1) in
      (λ i. copied_meaning c places (natural_is size env h.0 i) end p cells)
      ∙ (λ i. and_then (taken n p end p cells) (λ q cells. after_reading (places_from p (e i)) (accepted q (with_copy c places p (e i) cells))))
  content_is el Once (Some c) env places message end p cells h = shape_is el Once env places message end p cells h
  content_is el (OnceFilling size step) (Some c) env places message end p cells h = shape_is el (OnceFilling size step) env places message end p cells h
  content_is el (UpToZero size) (Some c) env places message end p cells h = shape_is el (UpToZero size) env places message end p cells h
  content_is el (Given source) (Some c) env places message end p cells h = shape_is el (Given source) env places message end p cells h

  given_is : (source : Source) (env places : List ℕ) (end p : ℕ) (cells : List ℕ) → OnSource Sound source env → given_value source env places end p cells ≡ whole_of.given_value source env places end p cells
  given_is (Expression span e) env places end p cells h = natural_is e env h
  given_is (FromCell cell) env places end p cells h = refl
  given_is Left env places end p cells h = refl

  -- the number of a field
  number_is : (el : Element) (extent : Extent) (env places message : List ℕ) (end p : ℕ) (cells : List ℕ) → OnShape Sound sets means throughs el extent env places message end p cells
      → field_number el extent env places message end p cells ≡ whole_of.field_number el extent env places message end p cells
  number_is (Number type) Once env places message end p cells h = refl
  number_is (Number type) (Filling size step) env places message end p cells h = refl
  number_is (Number type) (OnceFilling size step) env places message end p cells h = refl
  number_is (Number type) (UpToZero size) env places message end p cells h = refl
  number_is (Number type) (Given source) env places message end p cells h = given_is source env places end p cells h
  number_is (Listed base k) Once env places message end p cells h = refl
  number_is (Listed base k) (Filling size step) env places message end p cells h = refl
  number_is (Listed base k) (OnceFilling size step) env places message end p cells h = refl
  number_is (Listed base k) (UpToZero size) env places message end p cells h = refl
  number_is (Listed base k) (Given source) env places message end p cells h = refl
  number_is (Named j args own) extent env places message end p cells h = refl
  number_is UnitElement extent env places message end p cells h = refl
  number_is Rest extent env places message end p cells h = refl
  number_is Zeros extent env places message end p cells h = refl

  filling_is : (el : Element) (size : Term) (step : Option ℕ) (env places message : List ℕ) (end p : ℕ) (cells : List ℕ)
      → field_number el (Filling size step) env places message end p cells ≡ whole_of.field_number el (Filling size step) env places message end p cells
  filling_is (Number type) size step env places message end p cells = refl
  filling_is (Listed base k) size step env places message end p cells = refl
  filling_is (Named j args own) size step env places message end p cells = refl
  filling_is UnitElement size step env places message end p cells = refl
  filling_is Rest size step env places message end p cells = refl
  filling_is Zeros size step env places message end p cells = refl

  content_number_is : (el : Element) (extent : Extent) (copy : Option CopyOut) (env places message : List ℕ) (end p : ℕ) (cells : List ℕ) → OnContent Sound sets means throughs el extent copy env places message end p cells
      → field_number el extent env places message end p cells ≡ whole_of.field_number el extent env places message end p cells
  content_number_is el extent None env places message end p cells h = number_is el extent env places message end p cells h
  content_number_is el (Filling size step) (Some c) env places message end p cells h = filling_is el size step env places message end p cells
  content_number_is el Once (Some c) env places message end p cells h = number_is el Once env places message end p cells h
  content_number_is el (OnceFilling size step) (Some c) env places message end p cells h = number_is el (OnceFilling size step) env places message end p cells h
  content_number_is el (UpToZero size) (Some c) env places message end p cells h = number_is el (UpToZero size) env places message end p cells h
  content_number_is el (Given source) (Some c) env places message end p cells h = number_is el (Given source) env places message end p cells h

  fields_is : (ty : NameId) (fs : List Field) (env places message : List ℕ) (end p : ℕ) (cells : List ℕ) → OnFields Sound sets means throughs ty fs env places message end p cells → fields_meaning sets senses ty fs env places message end p cells ≡ whole_of.fields_meaning sets means ty fs env places message end p cells
  unfolding fields_meaning whole_of.fields_meaning
  fields_is ty [] env places message end p cells h = refl
  fields_is ty (f ∷ later) env places message end p cells h =
      let n = whole_of.field_number f.element f.extent env places message end p cells in
      let env1 = extended env n f.parts in
      let reads = number_places (is_needed (length env) f.parts later) f.element f.extent p in
      let place = field_place ty (first_name f.parts) p in
      let u = whole_of.content_meaning sets means f.element f.extent f.copy env places message end p cells in
      let go_on = λ (k q : ℕ) (c : List ℕ). after_reading reads (and_then (parts_meaning ty p k f.parts env places q c) (fields_meaning sets senses ty later (extended env k f.parts) places message end)) in
      let go = go_on n in
      let next = λ (q : ℕ) (c : List ℕ). after_reading reads (and_then (whole_of.parts_meaning ty p n f.parts env places q c) (whole_of.fields_meaning sets means ty later env1 places message end)) in
      let On = λ (q : ℕ) (c : List ℕ). OnParts Sound p n f.parts env places q c × OnEnding (whole_of.parts_meaning ty p n f.parts env places q c).ending (OnFields Sound sets means throughs ty later env1 places message end) in
      ap (λ k. and_then (within place (content_meaning sets senses f.element f.extent f.copy env places message end p cells)) (go_on k)) (content_number_is f.element f.extent f.copy env places message end p cells h.0)
      ∙ and_then_is (within place (content_meaning sets senses f.element f.extent f.copy env places message end p cells)) (within place u) go next
      (ap (within place) (content_is f.element f.extent f.copy env places message end p cells h.0))
      (on_within place u.ending (λ q c. go q c ≡ next q c) (on_map u.ending On (λ q c. go q c ≡ next q c) h.1
      (λ q c k.
      let v = whole_of.parts_meaning ty p n f.parts env places q c in
      ap (after_reading reads) (and_then_is (parts_meaning ty p n f.parts env places q c) v (fields_meaning sets senses ty later env1 places message end) (whole_of.fields_meaning sets means ty later env1 places message end)
      (parts_is ty p n f.parts env places q c k.0)
      (on_map v.ending (OnFields Sound sets means throughs ty later env1 places message end) (λ r e. fields_meaning sets senses ty later env1 places message end r e ≡ whole_of.fields_meaning sets means ty later env1 places message end r e) k.1
      (λ r e o. fields_is ty later env1 places message end r e o))))))

  -- Definitions

  chosen_is : (ty : NameId) (o : Option (List Field)) (args places message : List ℕ) (end p : ℕ) (cells : List ℕ) → OnChosen Sound sets means throughs ty o args places message end p cells → chosen_meaning sets senses ty o args places message end p cells ≡ whole_of.chosen_meaning sets means ty o args places message end p cells
  chosen_is ty None args places message end p cells h = refl
  chosen_is ty (Some fs) args places message end p cells h = fields_is ty fs args places message end p cells h

  body_is : (ty : NameId) (body : Body) (args places message : List ℕ) (end p : ℕ) (cells : List ℕ) → OnBody Sound sets means throughs ty body args places message end p cells → chosen_meaning sets senses ty (body_fields body args) args places message end p cells ≡ whole_of.body_meaning sets means ty body args places message end p cells
  body_is ty (Struct fs) args places message end p cells h = fields_is ty fs args places message end p cells h
  body_is ty (Casetype switch cases default) args places message end p cells h =
      (λ i. chosen_meaning sets senses ty (case_for (natural_is switch args h.0 i) cases default) args places message end p cells)
      ∙ chosen_is ty (case_for (natural_of switch args) cases default) args places message end p cells h.1

  definition_is : (o : Option TypeDef) (args places cells message : List ℕ) (p end : ℕ) → OnDefinition Sound sets means throughs o args places cells message p end → definition_meaning sets senses o args places cells message p end ≡ whole_of.definition_meaning sets means o args places cells message p end
  definition_is None args places cells message p end h = refl
  definition_is (Some d) args places cells message p end h =
      let place = where_place d.name p in
      let u = refined d.guard args p p cells in
      let go = chosen_meaning sets senses d.name (body_fields d.body args) args places message end in
      let next = whole_of.body_meaning sets means d.name d.body args places message end in
      and_then_is (within place (demanded Constraint (is_met d.guard args) p p cells)) (within place u) go next
      (ap (within place) (refined_is d.guard args p p cells h.0))
      (on_within place u.ending (λ q c. go q c ≡ next q c) (on_map u.ending (OnBody Sound sets means throughs d.name d.body args places message end) (λ q c. go q c ≡ next q c) h.1 (λ q c o. body_is d.name d.body args places message end q c o)))

below_is : (sets : List (List ℕ)) (ds : List TypeDef) (n : ℕ) → Same (below sets ds n) (whole_of.below sets ds n) (through_below Sound sets ds n)
unfolding below whole_of.below through_below
below_is sets ds zero = record { by = λ j args places cells message p end h. refl }
below_is sets ds (suc n) = record { by = λ j args places cells message p end h. step (below_is sets ds n) j args places cells message p end (nat_eq j n) h }
  where
    step : Same (below sets ds n) (whole_of.below sets ds n) (through_below Sound sets ds n) → (j : ℕ) (args places cells message : List ℕ) (p end : ℕ) (v : Bool)
        → pick_through Sound v (OnDefinition Sound sets (whole_of.below sets ds n) (through_below Sound sets ds n) (slice_get ds n)) (through_below Sound sets ds n j) args places cells message p end
        → pick v (definition_meaning sets (below sets ds n) (slice_get ds n)) (below sets ds n j) args places cells message p end
        ≡ pick v (whole_of.definition_meaning sets (whole_of.below sets ds n) (slice_get ds n)) (whole_of.below sets ds n j) args places cells message p end
    step same j args places cells message p end true h = definition_is sets (below sets ds n) (whole_of.below sets ds n) (through_below Sound sets ds n) same (slice_get ds n) args places cells message p end h
    step same j args places cells message p end false h = same.by j args places cells message p end h

-- the meaning of a message from an entry point, so computed
abbrev pub meaning : Module → Entry → List ℕ → List ℕ → List ℕ → Behavior
meaning m entry args cells message =
    below m.listed m.definitions (length m.definitions) (entry_place (slice_get m.entries entry.number) (length m.definitions)) args (places_from 0 (length cells)) cells message 0 (length message)

pub meaning_is : (m : Module) (entry : Entry) (args cells message : List ℕ) → Throughout Sound m entry args cells message → meaning m entry args cells message ≡ whole_of.meaning m entry args cells message
meaning_is m entry args cells message h =
    (below_is m.listed m.definitions (length m.definitions)).by (entry_place (slice_get m.entries entry.number) (length m.definitions)) args (places_from 0 (length cells)) cells message 0 (length message) h
