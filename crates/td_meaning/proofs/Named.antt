-- Each frame names a definition of the module and something of it. Cited by other crates.
use Rattle.std.proofs.Common.{◌≡◌, inl, inr, ℕ, zero, suc, ◌+◌, ◌-◌, ◌/◌, ◌<◌, Bool, true, false, cond, min, List, [], ◌∷◌, ◌++◌, length, map, refl, sym, subst, arith, Option, Some, None}
use Rattle.std.specs.Prelude.{slice_get, slice_index, nat_eq, nat_le}
use Rattle.std.proofs.lemmas.Bool.{eqb-true, eqb-false}
use Rattle.std.proofs.lemmas.Option.{none-some, same_Some, slice_get_within}
use Rattle.td_num.specs.Numbers.{bytes_in, number_at, places_from}
use Rattle.td_num.specs.Lists.{Each, is_among, first_where}
use Rattle.td_core.specs.Term.{Term, Deed}
use Rattle.td_meaning.specs.Imports.{NameId, Element, Number, Listed, Named, Unit as UnitElement, Rest, Zeros, CopyOut, Extent, Once, Filling, OnceFilling, UpToZero, Given, Part, Field as FieldDef, Case, Body, Struct, Casetype, TypeDef, Reason, NotEnough, Constraint, Impossible, ListSize, Action as ActionFails, TraceFrame}
use Rattle.td_core.specs.Outcome.{Behavior, FramePlace, Ending, Accepted, Rejected, accepted, rejected, and_then, onward, ending_within, frame_at, within, after_reading}
use Rattle.td_core.specs.WellFormed.{OfSome, EachField, HasParts}
use Rattle.td_meaning.specs.Doing.{Effect, On, Returned, Aborted, doing, natural_of, is_true}
use Rattle.td_meaning.specs.Naming.{is_needed}
use Rattle.td_meaning.specs.Meaning.{Sense, values, values_of, taken, demanded, is_nonzero, byte_type, zeros_end, numbers_at, element_meaning, elements, divides, equals, zero_end, element_up_to_zero, shape_meaning, with_copy, content_meaning, refined, ended, acted, checked, parts_meaning, bits_of, field_number, number_places, extended, field_place, where_place, switch_place, first_name, fields_meaning, case_for, chosen_meaning, body_meaning, definition_meaning, below, pick, entry_place}
use Rattle.td_meaning.specs.Framing.{OneOf, IsPartName, IsDefaultName, IsBodyName, HasGuard, IsCasetype, IsSpotOf, IsFrameOf, LastIs, AreNamed, FramesAreNamed}
use Rattle.td_num.proofs.Lists.{each_push as each_more}

last_more : (P : TraceFrame → Type 0) (xs : List TraceFrame) (y : TraceFrame) → P y → LastIs P (xs ++ y ∷ [])
last_more P [] y p = p
last_more P (x ∷ []) y p = p
last_more P (x ∷ z ∷ xs) y p = last_more P (z ∷ xs) y p

one_at : (P : TypeDef → Type 0) (ds : List TypeDef) (n : ℕ) (d : TypeDef) → slice_get ds n ≡ Some d → P d → OneOf P ds
one_at P [] n d e p = absurd (none-some d e)
one_at P (x ∷ ds) zero d e p = inl (subst P (sym (same_Some x d e)) p)
one_at P (x ∷ ds) (suc n) d e p = inr (one_at P ds n d e p)

pub each_at : (P : TypeDef → Type 0) (ds : List TypeDef) (n : ℕ) (d : TypeDef) → Each P ds → slice_get ds n ≡ Some d → P d
each_at P [] n d h e = absurd (none-some d e)
each_at P (x ∷ ds) zero d h e = subst P (same_Some x d e) h.0
each_at P (x ∷ ds) (suc n) d h e = each_at P ds n d h.1 e

module _ (ds : List TypeDef) where
  abbrev OfModule : TraceFrame → Type 0
  OfModule frame = OneOf (λ e. IsFrameOf e frame) ds

  -- the frames so far
  abbrev Shown : Ending → Type 0
  Shown (Accepted position cells) = Unit {0}
  Shown (Rejected reason position trace cells) = Each OfModule trace

  shown_then : (o : Ending) (reads : List ℕ) (go : ℕ → List ℕ → Behavior) → Shown o → ((q : ℕ) (cells : List ℕ) → Shown (go q cells).ending) → Shown (onward o reads go).ending
  shown_then (Accepted q cells) reads go h next = next q cells
  shown_then (Rejected reason position trace cells) reads go h next = h

  named_shown : (d : TypeDef) (o : Ending) → AreNamed ds d o → Shown o
  named_shown d (Accepted q cells) h = tt
  named_shown d (Rejected reason position trace cells) h = h.0

  demanded_shown : (reason : Reason) (v : Bool) (start q : ℕ) (cells : List ℕ) → Shown (demanded reason v start q cells).ending
  demanded_shown reason true start q cells = tt
  demanded_shown reason false start q cells = tt

  zeros_shown : (o : Option ℕ) (end p : ℕ) (cells : List ℕ) → Shown (zeros_end o end p cells).ending
  zeros_shown None end p cells = tt
  zeros_shown (Some k) end p cells = tt

  zero_shown : (o : Option ℕ) (w bound room p : ℕ) (cells : List ℕ) → Shown (zero_end o w bound room p cells).ending
  zero_shown None w bound room p cells = tt
  zero_shown (Some k) w bound room p cells = tt

  up_to_zero_shown : (element : Element) (size : ℕ) (message : List ℕ) (end p : ℕ) (cells : List ℕ) → Shown (element_up_to_zero element size message end p cells).ending
  up_to_zero_shown (Number t) size message end p cells =
      zero_shown (first_where (λ n. nat_eq n 0) (numbers_at t message p (min (size / bytes_in t.width) ((end - p) / bytes_in t.width)))) (bytes_in t.width) (size / bytes_in t.width) ((end - p) / bytes_in t.width) p cells
  up_to_zero_shown (Listed t k) size message end p cells = tt
  up_to_zero_shown (Named j args own) size message end p cells = tt
  up_to_zero_shown UnitElement size message end p cells = tt
  up_to_zero_shown Rest size message end p cells = tt
  up_to_zero_shown Zeros size message end p cells = tt

  elements_shown : (each : ℕ → List ℕ → Behavior) (start end : ℕ) → ((q : ℕ) (cells : List ℕ) → Shown (each q cells).ending) → (turns p : ℕ) (cells : List ℕ) → Shown (elements each turns start end p cells).ending
  unfolding elements
  elements_shown each start end h zero p cells = demanded_shown ListSize (nat_eq p end) start p cells
  elements_shown each start end h (suc turns) p cells = by (nat_eq p end) (λ q more. elements_shown each start end h turns q more)
    where
      by : (v : Bool) → ((q : ℕ) (more : List ℕ) → Shown (elements each turns start end q more).ending) → Shown (cond v (accepted p cells) (and_then (each p cells) (elements each turns start end))).ending
      by true later = tt
      by false later = shown_then (each p cells).ending (each p cells).reads (elements each turns start end) (h p cells) later

  refined_shown : (r : Option Term) (env : List ℕ) (start q : ℕ) (cells : List ℕ) → Shown (refined r env start q cells).ending
  refined_shown None env start q cells = tt
  refined_shown (Some e) env start q cells = demanded_shown Constraint (is_true e env) start q cells

  ended_shown : (o : Effect) (start q : ℕ) → Shown (ended o start q).ending
  ended_shown (On cells) start q = tt
  ended_shown (Returned value cells) start q = demanded_shown ActionFails value start q cells
  ended_shown (Aborted cells) start q = tt

  acted_shown : (a : Option Deed) (env places : List ℕ) (start q : ℕ) (cells : List ℕ) → Shown (acted a env places start q cells).ending
  acted_shown None env places start q cells = tt
  acted_shown (Some d) env places start q cells = ended_shown (doing d (env ++ start ∷ []) places cells) start q

  -- of the definitions that are named
  record AllShown (senses : ℕ → Sense) : Type 0 where
    by : (j : ℕ) (args places cells message : List ℕ) (p end : ℕ) → Shown (senses j args places cells message p end).ending

  -- within definition n of the list
  module _ (sets : List (List ℕ)) (senses : ℕ → Sense) (good : AllShown senses) (n : ℕ) (d : TypeDef) (at : slice_get ds n ≡ Some d) where
    named_then : (o : Ending) (reads : List ℕ) (go : ℕ → List ℕ → Behavior) → AreNamed ds d o → ((q : ℕ) (cells : List ℕ) → AreNamed ds d (go q cells).ending) → AreNamed ds d (onward o reads go).ending
    named_then (Accepted q cells) reads go h next = next q cells
    named_then (Rejected reason position trace cells) reads go h next = h

    framed : (site : FramePlace) (o : Ending) → site.ty ≡ d.name → IsSpotOf d site.field → Shown o → AreNamed ds d (ending_within site o)
    framed site (Accepted q cells) e spot h = tt
    framed site (Rejected reason position trace cells) e spot h =
        let is : IsFrameOf d (frame_at site reason) = record { ty = e; spot = spot } in (
          each_more OfModule trace (frame_at site reason) h (one_at (λ x. IsFrameOf x (frame_at site reason)) ds n d at is),
          last_more (IsFrameOf d) trace (frame_at site reason) is,
        )

    element_shown : (element : Element) (env places message : List ℕ) (start end p : ℕ) (cells : List ℕ) → Shown (element_meaning sets senses element env places message start end p cells).ending
    element_shown (Number t) env places message start end p cells = demanded_shown NotEnough (nat_le (p + bytes_in t.width) end) start (p + bytes_in t.width) cells
    element_shown (Listed t k) env places message start end p cells =
        shown_then (taken (bytes_in t.width) start end p cells).ending (taken (bytes_in t.width) start end p cells).reads
        (λ q cells. after_reading (places_from p (bytes_in t.width)) (demanded Constraint (is_among (values_of sets k) (number_at t message p)) start q cells))
        (demanded_shown NotEnough (nat_le (p + bytes_in t.width) end) start (p + bytes_in t.width) cells)
        (λ q more. demanded_shown Constraint (is_among (values_of sets k) (number_at t message p)) start q more)
    element_shown (Named j args own) env places message start end p cells = good.by j (values args env) (map (slice_index places) own) cells message p end
    element_shown UnitElement env places message start end p cells = tt
    element_shown Rest env places message start end p cells = tt
    element_shown Zeros env places message start end p cells = zeros_shown (first_where is_nonzero (numbers_at byte_type message p (end - p))) end p cells

    shape_shown : (element : Element) (extent : Extent) (env places message : List ℕ) (end p : ℕ) (cells : List ℕ) → Shown (shape_meaning sets senses element extent env places message end p cells).ending
    shape_shown element Once env places message end p cells = element_shown element env places message p end p cells
    shape_shown element (Filling size step) env places message end p cells =
        let m = natural_of size env in
        let each = element_meaning sets senses element env places message p in
        let ok = divides step m in
        shown_then (taken m p end p cells).ending (taken m p end p cells).reads (λ q more. and_then (demanded ListSize ok p p more) (elements (each q) (suc m) p q)) (demanded_shown NotEnough (nat_le (p + m) end) p (p + m) cells)
        (λ q more. shown_then (demanded ListSize ok p p more).ending (demanded ListSize ok p p more).reads (elements (each q) (suc m) p q) (demanded_shown ListSize ok p p more)
        (λ r last. elements_shown (each q) p q (λ t final. element_shown element env places message p q t final) (suc m) r last))
    shape_shown element (OnceFilling size step) env places message end p cells =
        let m = natural_of size env in
        let each = element_meaning sets senses element env places message p in
        let ok = equals step m in
        shown_then (taken m p end p cells).ending (taken m p end p cells).reads
        (λ q more. and_then (demanded ListSize ok p p more) (λ begin more. and_then (each q begin more) (λ r more. demanded ListSize (nat_eq r q) p r more))) (demanded_shown NotEnough (nat_le (p + m) end) p (p + m) cells)
        (λ q more. shown_then (demanded ListSize ok p p more).ending (demanded ListSize ok p p more).reads (λ begin more. and_then (each q begin more) (λ r more. demanded ListSize (nat_eq r q) p r more)) (demanded_shown ListSize ok p p more)
        (λ r last. shown_then (each q r last).ending (each q r last).reads (λ t final. demanded ListSize (nat_eq t q) p t final) (element_shown element env places message p q r last)
        (λ t final. demanded_shown ListSize (nat_eq t q) p t final)))
    shape_shown element (UpToZero size) env places message end p cells = up_to_zero_shown element (natural_of size env) message end p cells
    shape_shown element (Given source) env places message end p cells = tt

    content_shown : (element : Element) (extent : Extent) (copy : Option CopyOut) (env places message : List ℕ) (end p : ℕ) (cells : List ℕ) → Shown (content_meaning sets senses element extent copy env places message end p cells).ending
    content_shown element extent None env places message end p cells = shape_shown element extent env places message end p cells
    content_shown element (Filling size step) (Some c) env places message end p cells =
        let m = natural_of size env in
        shown_then (taken m p end p cells).ending (taken m p end p cells).reads (λ q more. after_reading (places_from p m) (accepted q (with_copy c places p m more))) (demanded_shown NotEnough (nat_le (p + m) end) p (p + m) cells)
        (λ q more. tt)
    content_shown element Once (Some c) env places message end p cells = shape_shown element Once env places message end p cells
    content_shown element (OnceFilling size step) (Some c) env places message end p cells = shape_shown element (OnceFilling size step) env places message end p cells
    content_shown element (UpToZero size) (Some c) env places message end p cells = shape_shown element (UpToZero size) env places message end p cells
    content_shown element (Given source) (Some c) env places message end p cells = shape_shown element (Given source) env places message end p cells

    parts_named : (start v : ℕ) (ps : List Part) (env places : List ℕ) (q : ℕ) (cells : List ℕ) → Each (λ part. IsBodyName part.name d.body) ps → AreNamed ds d (parts_meaning d.name start v ps env places q cells).ending
    unfolding parts_meaning
    parts_named start v [] env places q cells h = tt
    parts_named start v (p ∷ ps) env places q cells h =
        let values = env ++ bits_of p.bits v ∷ [] in
        let test = refined p.refinement values start q cells in
        named_then (within (field_place d.name p.name start) (checked p values places start q cells)).ending (checked p values places start q cells).reads (parts_meaning d.name start v ps values places)
        (framed (field_place d.name p.name start) (checked p values places start q cells).ending refl h.0
        (shown_then test.ending test.reads (acted p.action values places start) (refined_shown p.refinement values start q cells) (λ r more. acted_shown p.action values places start r more)))
        (λ r more. parts_named start v ps values places r more h.1)

    first_named : (ps : List Part) → HasParts ps → Each (λ part. IsBodyName part.name d.body) ps → IsBodyName (first_name ps) d.body
    first_named [] h i = absurd h
    first_named (p ∷ ps) h i = i.0

    -- the parts of these fields are the definition's own
    abbrev AreOwn : List FieldDef → Type 0
    AreOwn fs = Each (λ f. HasParts f.parts × Each (λ part. IsBodyName part.name d.body) f.parts) fs

    fields_named : (fs : List FieldDef) (env places message : List ℕ) (end p : ℕ) (cells : List ℕ) → AreOwn fs → AreNamed ds d (fields_meaning sets senses d.name fs env places message end p cells).ending
    unfolding fields_meaning
    fields_named [] env places message end p cells h = tt
    fields_named (x ∷ later) env places message end p cells h =
        let shape = content_meaning sets senses x.element x.extent x.copy env places message end p cells in
        let v = field_number x.element x.extent env places message end p cells in
        named_then (within (field_place d.name (first_name x.parts) p) shape).ending shape.reads
        (λ q more. after_reading (number_places (is_needed (length env) x.parts later) x.element x.extent p)
        (and_then (parts_meaning d.name p v x.parts env places q more) (fields_meaning sets senses d.name later (extended env v x.parts) places message end)))
        (framed (field_place d.name (first_name x.parts) p) shape.ending refl (first_named x.parts h.0.0 h.0.1) (content_shown x.element x.extent x.copy env places message end p cells))
        (λ q more. named_then (parts_meaning d.name p v x.parts env places q more).ending (parts_meaning d.name p v x.parts env places q more).reads (fields_meaning sets senses d.name later (extended env v x.parts) places message end)
        (parts_named p v x.parts env places q more h.0.1)
        (λ r last. fields_named later (extended env v x.parts) places message end r last h.1))

    -- the names of fields, where each that they have is the definition's
    owned_parts : (ps : List Part) → ((name : NameId) → OneOf (λ part. part.name ≡ name) ps → IsBodyName name d.body) → Each (λ part. IsBodyName part.name d.body) ps
    owned_parts [] h = tt
    owned_parts (p ∷ ps) h = (h p.name (inl refl), owned_parts ps (λ name i. h name (inr i)))

    owned : (fs : List FieldDef) → Each (λ f. HasParts f.parts) fs → ((name : NameId) → IsPartName name fs → IsBodyName name d.body) → AreOwn fs
    owned [] h names = tt
    owned (f ∷ fs) h names = ((h.0, owned_parts f.parts (λ name i. names name (inl i))), owned fs h.1 (λ name i. names name (inr i)))

    OwnChoice : Option (List FieldDef) → Type 0
    OwnChoice None = IsCasetype d.body
    OwnChoice (Some fs) = AreOwn fs

    chosen_named : (o : Option (List FieldDef)) (env places message : List ℕ) (end p : ℕ) (cells : List ℕ) → OwnChoice o → AreNamed ds d (chosen_meaning sets senses d.name o env places message end p cells).ending
    unfolding OwnChoice
    chosen_named None env places message end p cells h = framed (switch_place d.name p) (rejected Impossible p cells).ending refl h tt
    chosen_named (Some fs) env places message end p cells h = fields_named fs env places message end p cells h

    choose : (v : ℕ) (cs : List Case) (default : Option (List FieldDef)) → Each (λ c. AreOwn c.fields) cs → OwnChoice default → OwnChoice (case_for v cs default)
    unfolding OwnChoice
    choose v [] default h g = g
    choose v (c ∷ cs) default h g = by (nat_eq c.value v) (choose v cs default h.1 g)
      where
        by : (b : Bool) → OwnChoice (case_for v cs default) → OwnChoice (cond b (Some c.fields) (case_for v cs default))
        by true rest = h.0
        by false rest = rest

    owned_cases : (cs : List Case) → Each (λ c. Each (λ f. HasParts f.parts) c.fields) cs → ((name : NameId) → OneOf (λ c. IsPartName name c.fields) cs → IsBodyName name d.body) → Each (λ c. AreOwn c.fields) cs
    owned_cases [] h names = tt
    owned_cases (c ∷ cs) h names = (owned c.fields h.0 (λ name i. names name (inl i)), owned_cases cs h.1 (λ name i. names name (inr i)))

    owned_default : (o : Option (List FieldDef)) → OfSome (Each (λ f. HasParts f.parts)) o → ((name : NameId) → IsDefaultName name o → IsBodyName name d.body) → IsCasetype d.body → OwnChoice o
    unfolding OwnChoice
    owned_default None h names is = is
    owned_default (Some fs) h names is = owned fs h names

    body_named : (body : Body) (env places message : List ℕ) (end p : ℕ) (cells : List ℕ) → d.body ≡ body → EachField (λ f. HasParts f.parts) body → AreNamed ds d (body_meaning sets senses d.name body env places message end p cells).ending
    body_named (Struct fs) env places message end p cells e h =
        fields_named fs env places message end p cells (owned fs h (λ name i. subst (IsBodyName name) (sym e) i))
    body_named (Casetype switch cs default) env places message end p cells e h =
        chosen_named (case_for (natural_of switch env) cs default) env places message end p cells
        (choose (natural_of switch env) cs default
        (owned_cases cs h.0 (λ name i. subst (IsBodyName name) (sym e) (inl i)))
        (owned_default default h.1 (λ name i. subst (IsBodyName name) (sym e) (inr i)) (subst IsCasetype (sym e) tt)))

    definition_named : EachField (λ f. HasParts f.parts) d.body → (args places cells message : List ℕ) (p end : ℕ) → AreNamed ds d (definition_meaning sets senses (Some d) args places cells message p end).ending
    definition_named h args places cells message p end =
        named_then (within (where_place d.name p) (refined d.guard args p p cells)).ending (refined d.guard args p p cells).reads (body_meaning sets senses d.name d.body args places message end)
        (guarded d.guard refl)
        (λ q more. body_named d.body args places message end q more refl h)
      where
        guarded : (g : Option Term) → d.guard ≡ g → AreNamed ds d (within (where_place d.name p) (refined g args p p cells)).ending
        guarded None e = tt
        guarded (Some g) e = framed (where_place d.name p) (refined (Some g) args p p cells).ending refl (subst HasGuard (sym e) tt) (refined_shown (Some g) args p p cells)

  option_shown : (sets : List (List ℕ)) (senses : ℕ → Sense) → AllShown senses → Each (λ d. EachField (λ f. HasParts f.parts) d.body) ds → (n : ℕ) (o : Option TypeDef) → slice_get ds n ≡ o
      → (args places cells message : List ℕ) (p end : ℕ) → Shown (definition_meaning sets senses o args places cells message p end).ending
  option_shown sets senses good whole n None e args places cells message p end = tt
  option_shown sets senses good whole n (Some d) e args places cells message p end =
      named_shown d (definition_meaning sets senses (Some d) args places cells message p end).ending
      (definition_named sets senses good n d e (each_at (λ d. EachField (λ f. HasParts f.parts) d.body) ds n d whole e) args places cells message p end)

  all_shown : (sets : List (List ℕ)) → Each (λ d. EachField (λ f. HasParts f.parts) d.body) ds → (n : ℕ) → AllShown (below sets ds n)
  unfolding below
  all_shown sets whole zero = record { by = λ j args places cells message p end. tt }
  all_shown sets whole (suc n) = record { by = λ j args places cells message p end. by_number (nat_eq j n) (all_shown sets whole n) j args places cells message p end }
    where
      by_number : (v : Bool) → AllShown (below sets ds n) → (j : ℕ) (args places cells message : List ℕ) (p end : ℕ)
          → Shown (pick v (definition_meaning sets (below sets ds n) (slice_get ds n)) (below sets ds n j) args places cells message p end).ending
      by_number true good j args places cells message p end = option_shown sets (below sets ds n) good whole n (slice_get ds n) refl args places cells message p end
      by_number false good j args places cells message p end = good.by j args places cells message p end

  all_named : (sets : List (List ℕ)) → Each (λ d. EachField (λ f. HasParts f.parts) d.body) ds → (n j : ℕ) (d : TypeDef) → j < n → slice_get ds j ≡ Some d
      → (args places cells message : List ℕ) (p end : ℕ) → AreNamed ds d (below sets ds n j args places cells message p end).ending
  unfolding below
  all_named sets whole zero j d less at = absurd (omega (arith, less))
  all_named sets whole (suc n) j d less at = λ args places cells message p end. by_number (nat_eq j n) refl (λ lt. all_named sets whole n j d lt at) args places cells message p end
    where
      by_number : (v : Bool) → nat_eq j n ≡ v → (j < n → (args places cells message : List ℕ) (p end : ℕ) → AreNamed ds d (below sets ds n j args places cells message p end).ending)
          → (args places cells message : List ℕ) (p end : ℕ) → AreNamed ds d (pick v (definition_meaning sets (below sets ds n) (slice_get ds n)) (below sets ds n j) args places cells message p end).ending
      by_number true e earlier args places cells message p end =
          let here : slice_get ds n ≡ Some d = subst (λ i. slice_get ds i ≡ Some d) (eqb-true j n e) at in
          subst (λ o. AreNamed ds d (definition_meaning sets (below sets ds n) o args places cells message p end).ending) (sym here)
          (definition_named sets (below sets ds n) (all_shown sets whole n) n d here (each_at (λ d. EachField (λ f. HasParts f.parts) d.body) ds n d whole here) args places cells message p end)
      by_number false e earlier args places cells message p end = let apart = eqb-false j n e in earlier (omega (arith, less, apart)) args places cells message p end

pub frames_are_named : FramesAreNamed
frames_are_named m entry place d args cells message whole at is =
    let inside : place < length m.definitions = slice_get_within m.definitions place d is in
    subst (λ o. AreNamed m.definitions d (below m.listed m.definitions (length m.definitions) (entry_place o (length m.definitions)) args (places_from 0 (length cells)) cells message 0 (length message)).ending) (sym at)
    (all_named m.definitions m.listed whole.parts (length m.definitions) place d inside is args (places_from 0 (length cells)) cells message 0 (length message))
