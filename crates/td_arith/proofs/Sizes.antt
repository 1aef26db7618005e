-- Where a type accepts, it takes as many bytes as its kind says.
use Rattle.std.proofs.Common.{◌≡◌, ℕ, zero, suc, ◌+◌, ◌-◌, ◌*◌, ◌/◌, ◌^◌, ◌<◌, ◌≤◌, Bool, true, false, cond, min, max, List, [], ◌∷◌, length, map, refl, sym, ap, ◌∙◌, subst, arith, Option, Some, None, slice_get, slice_index, nat_eq, nat_le}
use Rattle.std.proofs.lemmas.Bool.{eqb-true, leb-true}
use Rattle.std.proofs.lemmas.Option.{none-some, same_Some}
use Rattle.std.proofs.Math.Nat.{div-mul-le_self, mul-le-mul_right}
use Rattle.td_num.specs.Numbers.{bytes_in, number_at, places_from}
use Rattle.td_num.specs.Lists.{is_among, first_where}
use Rattle.td_num.proofs.Lists.{found_below}
use Rattle.td_core.specs.Term.{Term}
use Rattle.td_arith.specs.Imports.{NameId, Element, Number, Listed, Named, Unit as UnitElement, Rest, Zeros, Extent, Once, Filling, OnceFilling, UpToZero, Given, CopyOut, Field, Case, Body, Struct, Casetype, TypeDef, NotEnough, Constraint, ListSize, Kind}
use Rattle.td_core.specs.Outcome.{Behavior, accepted, and_then, within, after_reading}
use Rattle.td_expr.specs.Value.{natural}
use Rattle.td_expr.specs.Same.{constant_of}
use Rattle.td_expr.proofs.Folding.{constant_is}
use Rattle.td_kinds.specs.Kinds.{up_to, exactly, at_least, on_both, joined, element_kind, sized_kind, field_kind, fields_kind, default_kind, spanned_with, cases_kind, body_kind, definition_kind, kinds_below, pick_kind}
use Rattle.td_meaning.specs.Doing.{natural_of}
use Rattle.td_meaning.specs.Naming.{is_needed}
use Rattle.td_meaning.specs.Meaning.{Sense, values, values_of, taken, demanded, is_nonzero, byte_type, zeros_end, numbers_at, element_meaning, elements, divides, equals, zero_end, element_up_to_zero, shape_meaning, with_copy, content_meaning, refined, parts_meaning, field_number, number_places, extended, field_place, where_place, first_name, fields_meaning, case_for, chosen_meaning, body_meaning, definition_meaning, below, pick}
use Rattle.td_meaning.specs.Throughout.{OnEnding}
use Rattle.td_kinds.specs.KindRules.{kinds_of}
use Rattle.td_arith.specs.Sizes.{UpTo, Sized, SizesHold, ElementsMoveOn}
use Rattle.td_meaning.proofs.Ending.{on_then, on_map, on_within, on_demanded}
use Rattle.td_meaning.proofs.Filling.{count_of, on_accepted, anywhere}
use Rattle.td_meaning.proofs.Staying.{Stays, refined_stays, parts_stay}

abbrev IsSized : Kind → Sense → Type 0
IsSized k sense = (args places cells message : List ℕ) (p end : ℕ) → p ≤ end → OnEnding (sense args places cells message p end).ending (Sized k p end)

-- Elements

taken_sized : (n start end p : ℕ) (cells : List ℕ) → OnEnding (taken n start end p cells).ending (λ q more. (q ≡ p + n) × (q ≤ end))
taken_sized n start end p cells = on_demanded NotEnough (nat_le (p + n) end) start (p + n) cells (λ q more. (q ≡ p + n) × (q ≤ end)) (λ e. (refl, leb-true (p + n) end e))

exact : (n p end q : ℕ) (cells : List ℕ) → q ≡ p + n → q ≤ end → Sized (exactly n) p end q cells
exact n p end q cells e le = (omega (arith, e), (le, omega (arith, e)))

zeros_sized : (first : Option ℕ) (end p : ℕ) (cells : List ℕ) → p ≤ end → OnEnding (zeros_end first end p cells).ending (λ q more. (p + 0 ≤ q) × ((q ≤ end) × Unit {0}))
zeros_sized None end p cells le = (omega (arith, le), (omega arith, tt))
zeros_sized (Some k) end p cells le = tt

-- elements fill the bytes up to the end
fills : (each : ℕ → List ℕ → Behavior) (start end turns p : ℕ) (cells : List ℕ) → OnEnding (elements each turns start end p cells).ending (Stays end)
unfolding elements
fills each start end zero p cells = on_demanded ListSize (nat_eq p end) start p cells (Stays end) (λ e. eqb-true p end e)
fills each start end (suc turns) p cells = by (nat_eq p end) refl (λ q more. fills each start end turns q more)
  where
    by : (b : Bool) → nat_eq p end ≡ b → ((q : ℕ) (more : List ℕ) → OnEnding (elements each turns start end q more).ending (Stays end))
        → OnEnding (cond b (accepted p cells) (and_then (each p cells) (elements each turns start end))).ending (Stays end)
    by true e later = eqb-true p end e
    by false e later = on_then (each p cells).ending (each p cells).reads (elements each turns start end) (λ q more. Unit {0}) (Stays end) (anywhere (each p cells).ending) (λ q more u. later q more)

-- n bytes, where n is the size's value
sized_bytes : (size : Term) (env : List ℕ) (p end q : ℕ) (cells : List ℕ) → q ≡ p + natural_of size env → q ≤ end → Sized (sized_kind (constant_of size)) p end q cells
sized_bytes size env p end q cells e le = by (constant_of size) refl
  where
    most : (c : ℕ) → q ≡ p + c → (b : Bool) → UpTo (cond b (Some c) None) p q
    most c f true = omega (arith, f)
    most c f false = tt

    by : (o : Option ℕ) → constant_of size ≡ o → Sized (sized_kind o) p end q cells
    by None f = (omega (arith, e), (le, tt))
    by (Some c) f =
        let v : natural_of size env ≡ c = ap natural (constant_is size c env f) in
        let g : q ≡ p + c = e ∙ ap (λ x. p + x) v in
        (omega (arith, g), (le, most c g (nat_le c (2 ^ 32))))

zero_sized : (first : Option ℕ) (w bound end p : ℕ) (cells : List ℕ) → ((k : ℕ) → first ≡ Some k → k < min bound ((end - p) / w)) → p ≤ end
    → OnEnding (zero_end first w bound ((end - p) / w) p cells).ending (Sized (at_least w) p end)
zero_sized None w bound end p cells h le = tt
zero_sized (Some k) w bound end p cells h le =
    let small : suc k ≤ (end - p) / w = omega (arith, h k refl) in
    let more = mul-le-mul_right w small in
    let room = div-mul-le_self (end - p) w in
    let one : 1 * w ≤ suc k * w = mul-le-mul_right w (omega arith) in
    (omega (arith, one), (omega (arith, more, room), tt))

module _ (sets : List (List ℕ)) (kinds : ℕ → Kind) (senses : ℕ → Sense) (good : (j : ℕ) → IsSized (kinds j) (senses j)) where
  element_sized : (element : Element) (env places message : List ℕ) (start end p : ℕ) (cells : List ℕ) → p ≤ end → OnEnding (element_meaning sets senses element env places message start end p cells).ending (Sized (element_kind kinds element) p end)
  element_sized (Number t) env places message start end p cells le =
      on_map (taken (bytes_in t.width) start end p cells).ending (λ q more. (q ≡ p + bytes_in t.width) × (q ≤ end)) (Sized (exactly (bytes_in t.width)) p end) (taken_sized (bytes_in t.width) start end p cells)
      (λ q more h. exact (bytes_in t.width) p end q more h.0 h.1)
  element_sized (Listed t k) env places message start end p cells le =
      on_then (taken (bytes_in t.width) start end p cells).ending (taken (bytes_in t.width) start end p cells).reads
      (λ q cells. after_reading (places_from p (bytes_in t.width)) (demanded Constraint (is_among (values_of sets k) (number_at t message p)) start q cells))
      (λ q more. (q ≡ p + bytes_in t.width) × (q ≤ end)) (Sized (exactly (bytes_in t.width)) p end) (taken_sized (bytes_in t.width) start end p cells)
      (λ q more h. on_demanded Constraint (is_among (values_of sets k) (number_at t message p)) start q more (Sized (exactly (bytes_in t.width)) p end) (λ e. exact (bytes_in t.width) p end q more h.0 h.1))
  element_sized (Named j args own) env places message start end p cells le = good j (values args env) (map (slice_index places) own) cells message p end le
  element_sized UnitElement env places message start end p cells le = (omega arith, (le, omega arith))
  element_sized Rest env places message start end p cells le = (omega (arith, le), (omega arith, tt))
  element_sized Zeros env places message start end p cells le = zeros_sized (first_where is_nonzero (numbers_at byte_type message p (end - p))) end p cells le

  up_to_zero_sized : (element : Element) (size : ℕ) (message : List ℕ) (end p : ℕ) (cells : List ℕ) → p ≤ end → OnEnding (element_up_to_zero element size message end p cells).ending (Sized (at_least (element_kind kinds element).least) p end)
  up_to_zero_sized (Number t) size message end p cells le =
      let w = bytes_in t.width in
      let m = min (size / w) ((end - p) / w) in
      zero_sized (first_where (λ x. nat_eq x 0) (numbers_at t message p m)) w (size / w) end p cells
      (λ k e. subst (λ c. k < c) (count_of t message p m) (found_below (λ x. nat_eq x 0) (numbers_at t message p m) k e)) le
  up_to_zero_sized (Listed t k) size message end p cells le = tt
  up_to_zero_sized (Named j args own) size message end p cells le = tt
  up_to_zero_sized UnitElement size message end p cells le = tt
  up_to_zero_sized Rest size message end p cells le = tt
  up_to_zero_sized Zeros size message end p cells le = tt

  shape_sized : (element : Element) (extent : Extent) (env places message : List ℕ) (end p : ℕ) (cells : List ℕ) → p ≤ end → OnEnding (shape_meaning sets senses element extent env places message end p cells).ending (Sized (field_kind kinds element extent) p end)
  shape_sized element Once env places message end p cells le = element_sized element env places message p end p cells le
  shape_sized element (Filling size step) env places message end p cells le =
      let m = natural_of size env in
      let each = element_meaning sets senses element env places message p in
      let ok = divides step m in
      let There : ℕ → List ℕ → Type 0 = λ q more. (q ≡ p + m) × (q ≤ end) in
      on_then (taken m p end p cells).ending (taken m p end p cells).reads (λ q more. and_then (demanded ListSize ok p p more) (elements (each q) (suc m) p q)) There (Sized (sized_kind (constant_of size)) p end) (taken_sized m p end p cells)
      (λ q more h. on_then (demanded ListSize ok p p more).ending (demanded ListSize ok p p more).reads (elements (each q) (suc m) p q) (λ r last. Unit {0}) (Sized (sized_kind (constant_of size)) p end)
      (on_demanded ListSize ok p p more (λ r last. Unit {0}) (λ t. tt))
      (λ r last u. on_map (elements (each q) (suc m) p q r last).ending (Stays q) (Sized (sized_kind (constant_of size)) p end) (fills (each q) p q (suc m) r last)
      (λ t final e. sized_bytes size env p end t final (e ∙ h.0) (omega (arith, e, h.1)))))
  shape_sized element (OnceFilling size step) env places message end p cells le =
      let m = natural_of size env in
      let each = element_meaning sets senses element env places message p in
      let ok = equals step m in
      let There : ℕ → List ℕ → Type 0 = λ q more. (q ≡ p + m) × (q ≤ end) in
      on_then (taken m p end p cells).ending (taken m p end p cells).reads
      (λ q more. and_then (demanded ListSize ok p p more) (λ begin more. and_then (each q begin more) (λ r more. demanded ListSize (nat_eq r q) p r more))) There (Sized (sized_kind (constant_of size)) p end) (taken_sized m p end p cells)
      (λ q more h. on_then (demanded ListSize ok p p more).ending (demanded ListSize ok p p more).reads (λ begin more. and_then (each q begin more) (λ r more. demanded ListSize (nat_eq r q) p r more)) (λ r last. Unit {0}) (Sized (sized_kind (constant_of size)) p end)
      (on_demanded ListSize ok p p more (λ r last. Unit {0}) (λ t. tt))
      (λ r last u. on_then (each q r last).ending (each q r last).reads (λ t final. demanded ListSize (nat_eq t q) p t final) (λ t final. Unit {0}) (Sized (sized_kind (constant_of size)) p end) (anywhere (each q r last).ending)
      (λ t final w. on_demanded ListSize (nat_eq t q) p t final (Sized (sized_kind (constant_of size)) p end)
      (λ e. let f = eqb-true t q e in sized_bytes size env p end t final (f ∙ h.0) (omega (arith, f, h.1))))))
  shape_sized element (UpToZero size) env places message end p cells le = up_to_zero_sized element (natural_of size env) message end p cells le
  shape_sized element (Given source) env places message end p cells le = (omega arith, (le, omega arith))

  content_sized : (element : Element) (extent : Extent) (copy : Option CopyOut) (env places message : List ℕ) (end p : ℕ) (cells : List ℕ) → p ≤ end
      → OnEnding (content_meaning sets senses element extent copy env places message end p cells).ending (Sized (field_kind kinds element extent) p end)
  content_sized element extent None env places message end p cells le = shape_sized element extent env places message end p cells le
  content_sized element (Filling size step) (Some c) env places message end p cells le =
      let m = natural_of size env in
      let There : ℕ → List ℕ → Type 0 = λ q more. (q ≡ p + m) × (q ≤ end) in
      on_then (taken m p end p cells).ending (taken m p end p cells).reads (λ q more. after_reading (places_from p m) (accepted q (with_copy c places p m more)))
      There (Sized (sized_kind (constant_of size)) p end) (taken_sized m p end p cells) (λ q more h. sized_bytes size env p end q (with_copy c places p m more) h.0 h.1)
  content_sized element Once (Some c) env places message end p cells le = shape_sized element Once env places message end p cells le
  content_sized element (OnceFilling size step) (Some c) env places message end p cells le = shape_sized element (OnceFilling size step) env places message end p cells le
  content_sized element (UpToZero size) (Some c) env places message end p cells le = shape_sized element (UpToZero size) env places message end p cells le
  content_sized element (Given source) (Some c) env places message end p cells le = shape_sized element (Given source) env places message end p cells le

  -- Fields

  field_sized : (ty : NameId) (f : Field) (env places message : List ℕ) (end p : ℕ) (cells : List ℕ) (go : ℕ → List ℕ → Behavior) (K : Kind) → p ≤ end
      → ((q : ℕ) (more : List ℕ) → Sized (field_kind kinds f.element f.extent) p end q more → OnEnding (go q more).ending (Sized K p end)) → (reads : List ℕ)
      → OnEnding (and_then (within (field_place ty (first_name f.parts) p) (content_meaning sets senses f.element f.extent f.copy env places message end p cells))
      (λ q more. after_reading reads (and_then (parts_meaning ty p (field_number f.element f.extent env places message end p cells) f.parts env places q more) go))).ending (Sized K p end)
  field_sized ty f env places message end p cells go K le next reads =
      let shape = content_meaning sets senses f.element f.extent f.copy env places message end p cells in
      let v = field_number f.element f.extent env places message end p cells in
      on_then (within (field_place ty (first_name f.parts) p) shape).ending shape.reads (λ q cells. after_reading reads (and_then (parts_meaning ty p v f.parts env places q cells) go))
      (Sized (field_kind kinds f.element f.extent) p end) (Sized K p end)
      (on_within (field_place ty (first_name f.parts) p) shape.ending (Sized (field_kind kinds f.element f.extent) p end) (content_sized f.element f.extent f.copy env places message end p cells le))
      (λ q more h. on_then (parts_meaning ty p v f.parts env places q more).ending (parts_meaning ty p v f.parts env places q more).reads go (Stays q) (Sized K p end) (parts_stay ty p v f.parts env places q more)
      (λ r last e. next r last (subst (λ z. Sized (field_kind kinds f.element f.extent) p end z last) (sym e) h)))

  joined_most : (a b : Option ℕ) (p q r : ℕ) → UpTo a p q → UpTo b q r → UpTo (up_to (2 ^ 32) (on_both (λ x y. x + y) a b)) p r
  joined_most None b p q r h g = tt
  joined_most (Some x) None p q r h g = tt
  joined_most (Some x) (Some y) p q r h g = by (nat_le (x + y) (2 ^ 32))
    where
      by : (b : Bool) → UpTo (cond b (Some (x + y)) None) p r
      by true = omega (arith, h, g)
      by false = tt

  pub fields_sized : (ty : NameId) (fs : List Field) (env places message : List ℕ) (end p : ℕ) (cells : List ℕ) → p ≤ end → OnEnding (fields_meaning sets senses ty fs env places message end p cells).ending (Sized (fields_kind kinds fs) p end)
  unfolding fields_meaning
  fields_sized ty [] env places message end p cells le = (omega arith, (le, omega arith))
  fields_sized ty (x ∷ []) env places message end p cells le =
      field_sized ty x env places message end p cells (fields_meaning sets senses ty [] (extended env (field_number x.element x.extent env places message end p cells) x.parts) places message end) (field_kind kinds x.element x.extent) le
      (λ q more h. h) (number_places (is_needed (length env) x.parts []) x.element x.extent p)
  fields_sized ty (x ∷ y ∷ fs) env places message end p cells le =
      let more_env = extended env (field_number x.element x.extent env places message end p cells) x.parts in
      field_sized ty x env places message end p cells (fields_meaning sets senses ty (y ∷ fs) more_env places message end) (joined (field_kind kinds x.element x.extent) (fields_kind kinds (y ∷ fs))) le
      (λ q more h. on_map (fields_meaning sets senses ty (y ∷ fs) more_env places message end q more).ending (Sized (fields_kind kinds (y ∷ fs)) q end) (Sized (joined (field_kind kinds x.element x.extent) (fields_kind kinds (y ∷ fs))) p end)
      (fields_sized ty (y ∷ fs) more_env places message end q more h.1.0)
      (λ r last g. (omega (arith, h.0, g.0), (g.1.0, joined_most (field_kind kinds x.element x.extent).most (fields_kind kinds (y ∷ fs)).most p q r h.1.1 g.1.1))))
      (number_places (is_needed (length env) x.parts (y ∷ fs)) x.element x.extent p)

  -- Cases

  abbrev MostIn : Option ℕ → Option ℕ → Type 0
  MostIn a None = Unit {0}
  MostIn None (Some n) = ⊥
  MostIn (Some m) (Some n) = m ≤ n

  abbrev Within : Kind → Kind → Type 0
  Within a b = (b.least ≤ a.least) × MostIn a.most b.most

  most_refl : (a : Option ℕ) → MostIn a a
  most_refl None = tt
  most_refl (Some n) = omega arith

  most_trans : (a b c : Option ℕ) → MostIn a b → MostIn b c → MostIn a c
  most_trans a b None h g = tt
  most_trans a None (Some n) h g = absurd g
  most_trans None (Some m) (Some n) h g = absurd h
  most_trans (Some k) (Some m) (Some n) h g = omega (arith, h, g)

  most_left : (a b : Option ℕ) → MostIn a (on_both max a b)
  most_left None b = tt
  most_left (Some m) None = tt
  most_left (Some m) (Some n) = omega arith

  most_right : (a b : Option ℕ) → MostIn b (on_both max a b)
  most_right None b = tt
  most_right (Some m) None = tt
  most_right (Some m) (Some n) = omega arith

  within_refl : (a : Kind) → Within a a
  within_refl a = (omega arith, most_refl a.most)

  within_trans : (a b c : Kind) → Within a b → Within b c → Within a c
  within_trans a b c h g = (omega (arith, h.0, g.0), most_trans a.most b.most c.most h.1 g.1)

  with_new : (o : Option Kind) (k : Kind) → Within k (spanned_with o k)
  with_new None k = within_refl k
  with_new (Some j) k = (omega arith, most_right j.most k.most)

  with_old : (j k : Kind) → Within j (spanned_with (Some j) k)
  with_old j k = (omega arith, most_left j.most k.most)

  kept : (j : Kind) (cs : List Case) → Within j (cases_kind kinds (Some j) cs)
  kept j [] = within_refl j
  kept j (c ∷ cs) =
      let next = spanned_with (Some j) (fields_kind kinds c.fields) in
      within_trans j next (cases_kind kinds (Some next) cs) (with_old j (fields_kind kinds c.fields)) (kept next cs)

  chosen_within : (v : ℕ) (cs : List Case) (default : Option (List Field)) (fs : List Field) (o : Option Kind) → ((gs : List Field) → default ≡ Some gs → (k : Kind) × ((o ≡ Some k) × Within (fields_kind kinds gs) k))
      → case_for v cs default ≡ Some fs → Within (fields_kind kinds fs) (cases_kind kinds o cs)
  chosen_within v [] default fs o start e =
      let s = start fs e in
      subst (λ z. Within (fields_kind kinds fs) (cases_kind kinds z [])) (sym s.1.0) s.1.1
  chosen_within v (c ∷ cs) default fs o start e = by (nat_eq c.value v) e (λ e. chosen_within v cs default fs (Some (spanned_with o (fields_kind kinds c.fields))) later e)
    where
      later : (gs : List Field) → default ≡ Some gs → (k : Kind) × ((Some (spanned_with o (fields_kind kinds c.fields)) ≡ Some k) × Within (fields_kind kinds gs) k)
      later gs d =
          let s = start gs d in
          (spanned_with o (fields_kind kinds c.fields), (refl, subst (λ z. Within (fields_kind kinds gs) (spanned_with z (fields_kind kinds c.fields))) (sym s.1.0) (within_trans (fields_kind kinds gs) s.0 (spanned_with (Some s.0) (fields_kind kinds c.fields)) s.1.1 (with_old s.0 (fields_kind kinds c.fields)))))

      by : (b : Bool) → cond b (Some c.fields) (case_for v cs default) ≡ Some fs → (case_for v cs default ≡ Some fs → Within (fields_kind kinds fs) (cases_kind kinds (Some (spanned_with o (fields_kind kinds c.fields))) cs))
          → Within (fields_kind kinds fs) (cases_kind kinds (Some (spanned_with o (fields_kind kinds c.fields))) cs)
      by true e rest =
          let k = fields_kind kinds c.fields in
          subst (λ z. Within (fields_kind kinds z) (cases_kind kinds (Some (spanned_with o k)) cs)) (same_Some c.fields fs e)
          (within_trans k (spanned_with o k) (cases_kind kinds (Some (spanned_with o k)) cs) (with_new o k) (kept (spanned_with o k) cs))
      by false e rest = rest e

  most_up : (a b : Option ℕ) (p q : ℕ) → MostIn a b → UpTo a p q → UpTo b p q
  most_up a None p q h g = tt
  most_up None (Some n) p q h g = absurd h
  most_up (Some m) (Some n) p q h g = omega (arith, h, g)

  widened : (a b : Kind) (p end q : ℕ) (cells : List ℕ) → Within a b → Sized a p end q cells → Sized b p end q cells
  widened a b p end q cells h g = (omega (arith, h.0, g.0), (g.1.0, most_up a.most b.most p q h.1 g.1.1))

  default_start : (default : Option (List Field)) (gs : List Field) → default ≡ Some gs → (k : Kind) × ((default_kind kinds default ≡ Some k) × Within (fields_kind kinds gs) k)
  default_start None gs e = absurd (none-some gs e)
  default_start (Some fs) gs e = (fields_kind kinds fs, (refl, subst (λ z. Within (fields_kind kinds z) (fields_kind kinds fs)) (same_Some fs gs e) (within_refl (fields_kind kinds fs))))

  chosen_sized : (ty : NameId) (o : Option (List Field)) (K : Kind) → ((fs : List Field) → o ≡ Some fs → Within (fields_kind kinds fs) K) → (env places message : List ℕ) (end p : ℕ) (cells : List ℕ) → p ≤ end
      → OnEnding (chosen_meaning sets senses ty o env places message end p cells).ending (Sized K p end)
  chosen_sized ty None K h env places message end p cells le = tt
  chosen_sized ty (Some fs) K h env places message end p cells le =
      on_map (fields_meaning sets senses ty fs env places message end p cells).ending (Sized (fields_kind kinds fs) p end) (Sized K p end) (fields_sized ty fs env places message end p cells le)
      (λ q more g. widened (fields_kind kinds fs) K p end q more (h fs refl) g)

  body_sized : (ty : NameId) (body : Body) (env places message : List ℕ) (end p : ℕ) (cells : List ℕ) → p ≤ end → OnEnding (body_meaning sets senses ty body env places message end p cells).ending (Sized (body_kind kinds body) p end)
  body_sized ty (Struct fs) env places message end p cells le = fields_sized ty fs env places message end p cells le
  body_sized ty (Casetype switch cs default) env places message end p cells le =
      chosen_sized ty (case_for (natural_of switch env) cs default) (cases_kind kinds (default_kind kinds default) cs)
      (λ fs e. chosen_within (natural_of switch env) cs default fs (default_kind kinds default) (default_start default) e) env places message end p cells le

  pub definition_sized : (o : Option TypeDef) → IsSized (definition_kind kinds o) (definition_meaning sets senses o)
  definition_sized None args places cells message p end le = tt
  definition_sized (Some d) args places cells message p end le =
      let guard = refined d.guard args p p cells in
      on_then (within (where_place d.name p) guard).ending guard.reads (body_meaning sets senses d.name d.body args places message end) (Stays p) (Sized (body_kind kinds d.body) p end)
      (on_within (where_place d.name p) guard.ending (Stays p) (refined_stays d.guard args p p cells))
      (λ q more e. subst (λ z. OnEnding (body_meaning sets senses d.name d.body args places message end z more).ending (Sized (body_kind kinds d.body) p end)) (sym e) (body_sized d.name d.body args places message end p more le))

all_sized : (sets : List (List ℕ)) (ds : List TypeDef) (n j : ℕ) → IsSized (kinds_below ds n j) (below sets ds n j)
unfolding below kinds_below
all_sized sets ds zero j = λ args places cells message p end le. tt
all_sized sets ds (suc n) j = by (nat_eq j n) (definition_sized sets (kinds_below ds n) (below sets ds n) (λ i. all_sized sets ds n i) (slice_get ds n)) (all_sized sets ds n j)
  where
    by : (b : Bool) → IsSized (definition_kind (kinds_below ds n) (slice_get ds n)) (definition_meaning sets (below sets ds n) (slice_get ds n)) → IsSized (kinds_below ds n j) (below sets ds n j)
        → IsSized (pick_kind b (definition_kind (kinds_below ds n) (slice_get ds n)) (kinds_below ds n j)) (pick b (definition_meaning sets (below sets ds n) (slice_get ds n)) (below sets ds n j))
    by true own rest = own
    by false own rest = rest

pub sizes_hold : SizesHold
sizes_hold m j args places cells message p end le = all_sized m.listed m.definitions (length m.definitions) j args places cells message p end le

pub elements_move_on : ElementsMoveOn
elements_move_on m element env places message start end least =
    let each = element_meaning m.listed (below m.listed m.definitions (length m.definitions)) element env places message start end in
    let kind = element_kind (kinds_of m) element in
    record {
      by = λ p q cells more le is.
          let sized = element_sized m.listed (kinds_of m) (below m.listed m.definitions (length m.definitions)) (λ j. all_sized m.listed m.definitions (length m.definitions) j) element env places message start end p cells le in
          let held : Sized kind p end q more = on_accepted (each p cells).ending q more (Sized kind p end) sized is in
          (omega (arith, least, held.0), held.1.0);
    }
