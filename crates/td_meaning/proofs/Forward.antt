-- Messages that agree before a place are read alike up to it, and so fields are read forward. Cited by other crates.
use Rattle.std.proofs.Common.{◌≡◌, ℕ, zero, suc, ◌+◌, ◌<◌, ◌≤◌, Bool, true, false, List, [], ◌∷◌, length, map, refl, sym, ap, ◌∙◌, subst, arith, inl, inr, Option, Some, None}
use Rattle.std.specs.Prelude.{◌⊎◌, slice_get, slice_index, nat_eq, nat_le}
use Rattle.std.proofs.lemmas.Bool.{cases_lt}
use Rattle.td_num.specs.Numbers.{bytes_in, number_at, places_from}
use Rattle.td_num.specs.Lists.{Each, is_among}
use Rattle.td_core.specs.Term.{Term}
use Rattle.td_meaning.specs.Imports.{NameId, Element, Number, Listed, Named, Unit as UnitElement, Rest, Zeros, CopyOut, Extent, Once, Filling, OnceFilling, UpToZero, Given, Field, Body, Struct, Casetype, TypeDef, NotEnough, Constraint, ListSize}
use Rattle.td_core.specs.Outcome.{Behavior, FramePlace, Accepted, Rejected, rejected, and_then, within, after_reading}
use Rattle.td_meaning.specs.Doing.{natural_of, is_true}
use Rattle.td_meaning.specs.Naming.{is_needed}
use Rattle.td_meaning.specs.Meaning.{Sense, values, values_of, taken, demanded, element_meaning, elements, divides, equals, shape_meaning, content_meaning, refined, parts_meaning, field_number, number_places, extended, field_place, where_place, first_name, fields_meaning, case_for, chosen_meaning, body_meaning, definition_meaning, below, pick, entry_place, meaning}
use Rattle.td_meaning.specs.Throughout.{OnEnding}
use Rattle.td_meaning.specs.Forward.{IsAt, ReadsGoForward, ReadsAreWithin}
use Rattle.td_meaning.proofs.Ending.{on_within}
use Rattle.td_meaning.proofs.Inside.{Among, Inside, wider, inside_then, inside_within, inside_demanded, taken_at, parts_inside, AllInside, element_inside, content_inside, fields_inside, below_inside, unframed}
use Rattle.td_meaning.proofs.Deciding.{reads_decide}
use Rattle.td_meaning.proofs.Places.{at_each, same_at_each}
use Rattle.td_meaning.proofs.Near.{Near, apart_from, near_reading, near_after, beyond, near_then, number_alike, apart_reading, past_demanded, silent, zeros_near, element_up_to_zero_near, elements_near}

module _ (b c : List ℕ) (q : ℕ) (alike : (k : ℕ) → k < q → slice_index b k ≡ slice_index c k) where
  -- of each definition
  record AllNear (senses : ℕ → Sense) : Type 0 where
    by : (j : ℕ) (args places cells : List ℕ) (p end : ℕ) → p ≤ end → Near b c q alike (senses j args places cells b p end) (senses j args places cells c p end)

  module _ (sets : List (List ℕ)) (senses : ℕ → Sense) (one : AllInside b sets senses) (other : AllInside c sets senses) (good : AllNear senses) where
    element_near : (element : Element) (env places : List ℕ) (start end p : ℕ) (cells : List ℕ) → p ≤ end → Near b c q alike (element_meaning sets senses element env places b start end p cells) (element_meaning sets senses element env places c start end p cells)
    element_near (Number type) env places start end p cells le = inl refl
    element_near (Listed base k) env places start end p cells le =
        let w = bytes_in base.width in
        let test = λ (message : List ℕ) (r : ℕ) (cells : List ℕ). demanded Constraint (is_among (values_of sets k) (number_at base message p)) start r cells in
        near_after b c q alike (taken w start end p cells) (λ r cells. after_reading (places_from p w) (test b r cells)) (λ r cells. after_reading (places_from p w) (test c r cells))
        (λ r more e.
        let at : r ≡ p + w = taken_at (nat_le (p + w) end) start (p + w) r cells more e in
        elim (cases_lt q (p + w)) [
          | inl short ↦
              let past : q < r = omega (arith, short, at) in
              apart_reading b c q alike (places_from p w) (test b r more) (test c r more)
              (past_demanded b c q alike Constraint (is_among (values_of sets k) (number_at base b p)) start r more past) (past_demanded b c q alike Constraint (is_among (values_of sets k) (number_at base c p)) start r more past)
              (silent b c q alike Constraint (is_among (values_of sets k) (number_at base b p)) start r more) (silent b c q alike Constraint (is_among (values_of sets k) (number_at base c p)) start r more)
          | inr room ↦ inl (ap (λ n. after_reading (places_from p w) (demanded Constraint (is_among (values_of sets k) n) start r more)) (number_alike b c q alike base p room))
        ])
    element_near (Named j args own) env places start end p cells le = good.by j (values args env) (map (slice_index places) own) cells p end le
    element_near UnitElement env places start end p cells le = inl refl
    element_near Rest env places start end p cells le = inl refl
    element_near Zeros env places start end p cells le = zeros_near b c q alike end p cells le

    shape_near : (element : Element) (extent : Extent) (env places : List ℕ) (end p : ℕ) (cells : List ℕ) → p ≤ end → Near b c q alike (shape_meaning sets senses element extent env places b end p cells) (shape_meaning sets senses element extent env places c end p cells)
    shape_near element Once env places end p cells le = element_near element env places p end p cells le
    shape_near element (Filling size step) env places end p cells le =
        let n = natural_of size env in
        let each = element_meaning sets senses element env places b p in
        let each' = element_meaning sets senses element env places c p in
        let fits = demanded ListSize (divides step n) p p in
        near_after b c q alike (taken n p end p cells) (λ r cells. and_then (fits cells) (elements (each r) (suc n) p r)) (λ r cells. and_then (fits cells) (elements (each' r) (suc n) p r))
        (λ r more e. near_after b c q alike (fits more) (elements (each r) (suc n) p r) (elements (each' r) (suc n) p r)
        (λ s last f.
        let at : r ≡ p + n = taken_at (nat_le (p + n) end) p (p + n) r cells more e in
        let from : s ≡ p = fits_at (divides step n) p p s more last f in
        elements_near b c q alike (each r) (each' r) p r
        (λ t final ge. element_inside b sets senses one element env places p r t final ge) (λ t final ge. element_inside c sets senses other element env places p r t final ge)
        (λ t final ge. element_near element env places p r t final ge) (suc n) s last (omega (arith, at, from))))
      where
        fits_at : (v : Bool) (start r s : ℕ) (cells more : List ℕ) → (demanded ListSize v start r cells).ending ≡ Accepted s more → s ≡ r
        fits_at true start r s cells more e = let f : Accepted r cells ≡ Accepted s more = e in cc
        fits_at false start r s cells more e = absurd (let f : Rejected ListSize start [] cells ≡ Accepted s more = e in cc)
    shape_near element (OnceFilling size step) env places end p cells le =
        let n = natural_of size env in
        let each = element_meaning sets senses element env places b p in
        let each' = element_meaning sets senses element env places c p in
        let fits = demanded ListSize (equals step n) p p in
        let last = λ (r t : ℕ) (cells : List ℕ). demanded ListSize (nat_eq t r) p t cells in
        near_after b c q alike (taken n p end p cells) (λ r cells. and_then (fits cells) (λ s cells. and_then (each r s cells) (last r))) (λ r cells. and_then (fits cells) (λ s cells. and_then (each' r s cells) (last r)))
        (λ r more e. near_after b c q alike (fits more) (λ s cells. and_then (each r s cells) (last r)) (λ s cells. and_then (each' r s cells) (last r))
        (λ s rest f.
        let at : r ≡ p + n = taken_at (nat_le (p + n) end) p (p + n) r cells more e in
        let from : s ≡ p = fits_at (equals step n) p p s more rest f in
        let room : s ≤ r = omega (arith, at, from) in
        near_then b c q alike s r (each r s rest) (each' r s rest) (last r) (last r) (element_near element env places p r s rest room)
        (element_inside b sets senses one element env places p r s rest room) (element_inside c sets senses other element env places p r s rest room)
        (λ t final lo hi. inside_demanded t r ListSize (nat_eq t r) p t final (omega arith) hi) (λ t final lo hi. inside_demanded t r ListSize (nat_eq t r) p t final (omega arith) hi)
        (λ t final lo hi. inl refl)))
      where
        fits_at : (v : Bool) (start r s : ℕ) (cells more : List ℕ) → (demanded ListSize v start r cells).ending ≡ Accepted s more → s ≡ r
        fits_at true start r s cells more e = let f : Accepted r cells ≡ Accepted s more = e in cc
        fits_at false start r s cells more e = absurd (let f : Rejected ListSize start [] cells ≡ Accepted s more = e in cc)
    shape_near element (UpToZero size) env places end p cells le = element_up_to_zero_near b c q alike element (natural_of size env) end p cells
    shape_near element (Given source) env places end p cells le = inl refl

    -- a number is read behind the same shape, and all else has no places
    numbers : (need : Bool) (element : Element) (extent : Extent) (env places : List ℕ) (end p : ℕ) (cells : List ℕ)
        → (shape_meaning sets senses element extent env places b end p cells ≡ shape_meaning sets senses element extent env places c end p cells) ⊎ (number_places need element extent p ≡ [])
    numbers need (Number type) Once env places end p cells = inl refl
    numbers need (Number type) (Filling size step) env places end p cells = inr refl
    numbers need (Number type) (OnceFilling size step) env places end p cells = inr refl
    numbers need (Number type) (UpToZero size) env places end p cells = inr refl
    numbers need (Number type) (Given source) env places end p cells = inl refl
    numbers need (Listed base k) extent env places end p cells = inr refl
    numbers need (Named j args own) extent env places end p cells = inr refl
    numbers need UnitElement extent env places end p cells = inr refl
    numbers need Rest extent env places end p cells = inr refl
    numbers need Zeros extent env places end p cells = inr refl

    -- where a field ends up to q its number is the same
    field_number_alike : (element : Element) (extent : Extent) (env places : List ℕ) (end p r : ℕ) (cells more : List ℕ)
        → (shape_meaning sets senses element extent env places b end p cells).ending ≡ Accepted r more → r ≤ q → field_number element extent env places b end p cells ≡ field_number element extent env places c end p cells
    field_number_alike (Number type) Once env places end p r cells more e le =
        let w = bytes_in type.width in
        let at : r ≡ p + w = taken_at (nat_le (p + w) end) p (p + w) r cells more e in
        number_alike b c q alike type p (omega (arith, at, le))
    field_number_alike (Listed base k) Once env places end p r cells more e le =
        let w = bytes_in base.width in
        let v = is_among (values_of sets k) (number_at base b p) in
        number_alike b c q alike base p (listed_at (nat_le (p + w) end) v w p r cells more e le)
      where
        listed_at : (u v : Bool) (w p r : ℕ) (cells more : List ℕ) → (and_then (demanded NotEnough u p (p + w) cells) (λ q cells. after_reading (places_from p w) (demanded Constraint v p q cells))).ending ≡ Accepted r more → r ≤ q → p + w ≤ q
        listed_at true true w p r cells more e le = let f : Accepted (p + w) cells ≡ Accepted r more = e in let g : p + w ≡ r = cc in omega (arith, g, le)
        listed_at true false w p r cells more e le = absurd (let f : Rejected Constraint p [] cells ≡ Accepted r more = e in cc)
        listed_at false v w p r cells more e le = absurd (let f : Rejected NotEnough p [] cells ≡ Accepted r more = e in cc)
    field_number_alike (Number type) (Filling size step) env places end p r cells more e le = refl
    field_number_alike (Number type) (OnceFilling size step) env places end p r cells more e le = refl
    field_number_alike (Number type) (UpToZero size) env places end p r cells more e le = refl
    field_number_alike (Number type) (Given source) env places end p r cells more e le = refl
    field_number_alike (Listed base k) (Filling size step) env places end p r cells more e le = refl
    field_number_alike (Listed base k) (OnceFilling size step) env places end p r cells more e le = refl
    field_number_alike (Listed base k) (UpToZero size) env places end p r cells more e le = refl
    field_number_alike (Listed base k) (Given source) env places end p r cells more e le = refl
    field_number_alike (Named j args own) extent env places end p r cells more e le = refl
    field_number_alike UnitElement extent env places end p r cells more e le = refl
    field_number_alike Rest extent env places end p r cells more e le = refl
    field_number_alike Zeros extent env places end p r cells more e le = refl

    content_near : (element : Element) (extent : Extent) (copy : Option CopyOut) (env places : List ℕ) (end p : ℕ) (cells : List ℕ) → p ≤ end
        → Near b c q alike (content_meaning sets senses element extent copy env places b end p cells) (content_meaning sets senses element extent copy env places c end p cells)
    content_near element extent None env places end p cells le = shape_near element extent env places end p cells le
    content_near element (Filling size step) (Some o) env places end p cells le = inl refl
    content_near element Once (Some o) env places end p cells le = shape_near element Once env places end p cells le
    content_near element (OnceFilling size step) (Some o) env places end p cells le = shape_near element (OnceFilling size step) env places end p cells le
    content_near element (UpToZero size) (Some o) env places end p cells le = shape_near element (UpToZero size) env places end p cells le
    content_near element (Given source) (Some o) env places end p cells le = shape_near element (Given source) env places end p cells le

    content_numbers : (need : Bool) (element : Element) (extent : Extent) (copy : Option CopyOut) (env places : List ℕ) (end p : ℕ) (cells : List ℕ)
        → (content_meaning sets senses element extent copy env places b end p cells ≡ content_meaning sets senses element extent copy env places c end p cells) ⊎ (number_places need element extent p ≡ [])
    content_numbers need element extent None env places end p cells = numbers need element extent env places end p cells
    content_numbers need element (Filling size step) (Some o) env places end p cells = inl refl
    content_numbers need element Once (Some o) env places end p cells = numbers need element Once env places end p cells
    content_numbers need element (OnceFilling size step) (Some o) env places end p cells = numbers need element (OnceFilling size step) env places end p cells
    content_numbers need element (UpToZero size) (Some o) env places end p cells = numbers need element (UpToZero size) env places end p cells
    content_numbers need element (Given source) (Some o) env places end p cells = numbers need element (Given source) env places end p cells

    filling_alike : (element : Element) (size : Term) (step : Option ℕ) (env places : List ℕ) (end p : ℕ) (cells : List ℕ) → field_number element (Filling size step) env places b end p cells ≡ field_number element (Filling size step) env places c end p cells
    filling_alike (Number type) size step env places end p cells = refl
    filling_alike (Listed base k) size step env places end p cells = refl
    filling_alike (Named j args own) size step env places end p cells = refl
    filling_alike UnitElement size step env places end p cells = refl
    filling_alike Rest size step env places end p cells = refl
    filling_alike Zeros size step env places end p cells = refl

    content_number_alike : (element : Element) (extent : Extent) (copy : Option CopyOut) (env places : List ℕ) (end p r : ℕ) (cells more : List ℕ)
        → (content_meaning sets senses element extent copy env places b end p cells).ending ≡ Accepted r more → r ≤ q → field_number element extent env places b end p cells ≡ field_number element extent env places c end p cells
    content_number_alike element extent None env places end p r cells more e le = field_number_alike element extent env places end p r cells more e le
    content_number_alike element (Filling size step) (Some o) env places end p r cells more e le = filling_alike element size step env places end p cells
    content_number_alike element Once (Some o) env places end p r cells more e le = field_number_alike element Once env places end p r cells more e le
    content_number_alike element (OnceFilling size step) (Some o) env places end p r cells more e le = field_number_alike element (OnceFilling size step) env places end p r cells more e le
    content_number_alike element (UpToZero size) (Some o) env places end p r cells more e le = field_number_alike element (UpToZero size) env places end p r cells more e le
    content_number_alike element (Given source) (Some o) env places end p r cells more e le = field_number_alike element (Given source) env places end p r cells more e le

    fields_near : (ty : NameId) (fs : List Field) (env places : List ℕ) (end p : ℕ) (cells : List ℕ) → p ≤ end → Near b c q alike (fields_meaning sets senses ty fs env places b end p cells) (fields_meaning sets senses ty fs env places c end p cells)
    unfolding fields_meaning
    fields_near ty [] env places end p cells le = inl refl
    fields_near ty (x ∷ later) env places end p cells le =
        let site = field_place ty (first_name x.parts) p in
        let t = content_meaning sets senses x.element x.extent x.copy env places b end p cells in
        let u = content_meaning sets senses x.element x.extent x.copy env places c end p cells in
        let v = field_number x.element x.extent env places b end p cells in
        let v' = field_number x.element x.extent env places c end p cells in
        let reads = number_places (is_needed (length env) x.parts later) x.element x.extent p in
        let go = λ (message : List ℕ) (n r : ℕ) (cells : List ℕ). and_then (parts_meaning ty p n x.parts env places r cells) (fields_meaning sets senses ty later (extended env n x.parts) places message end) in
        let rest_inside : (message : List ℕ) (i : AllInside message sets senses) (n r : ℕ) (more : List ℕ) → r ≤ end → Inside r end (go message n r more) = λ message i n r more hi.
        inside_then r end (parts_meaning ty p n x.parts env places r more) (fields_meaning sets senses ty later (extended env n x.parts) places message end)
        (parts_inside ty p n r end x.parts env places r more (omega arith) hi)
        (λ s last f from to. wider s end r end (fields_meaning sets senses ty later (extended env n x.parts) places message end s last) from (omega arith) (fields_inside message sets senses i ty later (extended env n x.parts) places end s last to)) in
        let ti = inside_within p end site t (content_inside b sets senses one x.element x.extent x.copy env places end p cells le) in
        let ui = inside_within p end site u (content_inside c sets senses other x.element x.extent x.copy env places end p cells le) in
        let rest_near : (r : ℕ) (more : List ℕ) → r ≤ end → (r ≤ q → v ≡ v') → Near b c q alike (go b v r more) (go c v' r more) = λ r more hi same.
        elim (cases_lt q r) [
          | inl past ↦ inr (apart_from b c q alike r end (go b v r more) (go c v' r more) past (rest_inside b one v r more hi) (rest_inside c other v' r more hi))
          | inr before ↦ subst (λ n. Near b c q alike (go b v r more) (go c n r more)) (same before)
              (near_after b c q alike (parts_meaning ty p v x.parts env places r more) (fields_meaning sets senses ty later (extended env v x.parts) places b end) (fields_meaning sets senses ty later (extended env v x.parts) places c end)
              (λ s last f.
              let at = subst (λ o. OnEnding o (λ s cells. (r ≤ s) × (s ≤ end))) f (parts_inside ty p v r end x.parts env places r more (omega arith) hi).ending in
              fields_near ty later (extended env v x.parts) places end s last at.1))
        ] in
        let number_same_at : (r : ℕ) (more : List ℕ) → (within site t).ending ≡ Accepted r more → r ≤ q → v ≡ v' = λ r more e before.
        content_number_alike x.element x.extent x.copy env places end p r cells more (unframed b sets senses one site t.ending r more e) before in
        elim (content_numbers (is_needed (length env) x.parts later) x.element x.extent x.copy env places end p cells) [
          | inl e ↦ subst (λ s. Near b c q alike (and_then (within site t) (λ r cells. after_reading reads (go b v r cells))) (and_then (within site s) (λ r cells. after_reading reads (go c v' r cells)))) e
              (near_after b c q alike (within site t) (λ r cells. after_reading reads (go b v r cells)) (λ r cells. after_reading reads (go c v' r cells))
              (λ r more f.
              let at = subst (λ o. OnEnding o (λ r cells. (p ≤ r) × (r ≤ end))) f ti.ending in
              near_reading b c q alike reads (go b v r more) (go c v' r more) (rest_near r more at.1 (number_same_at r more f))))
          | inr none ↦ subst (λ xs. Near b c q alike (and_then (within site t) (λ r cells. after_reading xs (go b v r cells))) (and_then (within site u) (λ r cells. after_reading xs (go c v' r cells)))) (sym none)
              (followed site t u (λ r cells. after_reading [] (go b v r cells)) (λ r cells. after_reading [] (go c v' r cells)) p end
              (content_near x.element x.extent x.copy env places end p cells le) ti ui
              (λ r more lo hi. rest_inside b one v r more hi) (λ r more lo hi. rest_inside c other v' r more hi)
              (λ r more f hi. rest_near r more hi (number_same_at r more f)))
        ]
      where
        -- as near_then, where what follows may rest on how the first ended
        followed : (site : FramePlace) (t u : Behavior) (go go' : ℕ → List ℕ → Behavior) (low high : ℕ) → Near b c q alike t u → Inside low high (within site t) → Inside low high (within site u)
            → ((r : ℕ) (cells : List ℕ) → low ≤ r → r ≤ high → Inside r high (go r cells)) → ((r : ℕ) (cells : List ℕ) → low ≤ r → r ≤ high → Inside r high (go' r cells))
            → ((r : ℕ) (cells : List ℕ) → (within site t).ending ≡ Accepted r cells → r ≤ high → Near b c q alike (go r cells) (go' r cells)) → Near b c q alike (and_then (within site t) go) (and_then (within site u) go')
        followed site t u go go' low high (inl e) i j k l next =
            subst (λ v. Near b c q alike (and_then (within site t) go) (and_then (within site v) go')) e
            (near_after b c q alike (within site t) go go' (λ r cells f. let at = subst (λ o. OnEnding o (λ r cells. (low ≤ r) × (r ≤ high))) f i.ending in next r cells f at.1))
        followed site t u go go' low high (inr a) i j k l next =
            let past = on_within site t.ending (λ r cells. q < r) a.one in
            let past' = on_within site u.ending (λ r cells. q < r) a.other in
            let one = beyond b c q alike high (within site t).ending t.reads go past (λ r cells f. let at = subst (λ o. OnEnding o (λ r cells. (low ≤ r) × (r ≤ high))) f i.ending in k r cells at.0 at.1) in
            let other = beyond b c q alike high (within site u).ending u.reads go' past' (λ r cells f. let at = subst (λ o. OnEnding o (λ r cells. (low ≤ r) × (r ≤ high))) f j.ending in l r cells at.0 at.1) in
            inr (record {
              here = λ k le h. other.0.1 k (a.here k le (one.0.0 k le h));
              there = λ k le h. one.0.1 k (a.there k le (other.0.0 k le h));
              one = one.1;
              other = other.1;
            })

    chosen_near : (ty : NameId) (o : Option (List Field)) (env places : List ℕ) (end p : ℕ) (cells : List ℕ) → p ≤ end → Near b c q alike (chosen_meaning sets senses ty o env places b end p cells) (chosen_meaning sets senses ty o env places c end p cells)
    chosen_near ty None env places end p cells le = inl refl
    chosen_near ty (Some fs) env places end p cells le = fields_near ty fs env places end p cells le

    body_near : (ty : NameId) (body : Body) (env places : List ℕ) (end p : ℕ) (cells : List ℕ) → p ≤ end → Near b c q alike (body_meaning sets senses ty body env places b end p cells) (body_meaning sets senses ty body env places c end p cells)
    body_near ty (Struct fs) env places end p cells le = fields_near ty fs env places end p cells le
    body_near ty (Casetype switch cases default) env places end p cells le = chosen_near ty (case_for (natural_of switch env) cases default) env places end p cells le

    definition_near : (o : Option TypeDef) (args places cells : List ℕ) (p end : ℕ) → p ≤ end → Near b c q alike (definition_meaning sets senses o args places cells b p end) (definition_meaning sets senses o args places cells c p end)
    definition_near None args places cells p end le = inl refl
    definition_near (Some d) args places cells p end le =
        near_after b c q alike (within (where_place d.name p) (refined d.guard args p p cells)) (body_meaning sets senses d.name d.body args places b end) (body_meaning sets senses d.name d.body args places c end)
        (λ r more e. body_near d.name d.body args places end r more (guard_at d.guard r more e))
      where
        guarded : (v : Bool) (r : ℕ) (more : List ℕ) → (within (where_place d.name p) (demanded Constraint v p p cells)).ending ≡ Accepted r more → r ≤ end
        guarded true r more e = let f : Accepted p cells ≡ Accepted r more = e in let g : p ≡ r = cc in omega (arith, g, le)
        guarded false r more e = absurd (unframed_not r more e)
          where
            unframed_not : (r : ℕ) (more : List ℕ) → (within (where_place d.name p) (rejected Constraint p cells)).ending ≡ Accepted r more → ⊥
            unframed_not r more e = let f : (rejected Constraint p cells).ending ≡ Accepted r more = unframed b sets senses one (where_place d.name p) (rejected Constraint p cells).ending r more e in cc

        guard_at : (g : Option Term) (r : ℕ) (more : List ℕ) → (within (where_place d.name p) (refined g args p p cells)).ending ≡ Accepted r more → r ≤ end
        guard_at None r more e = let f : Accepted p cells ≡ Accepted r more = e in let g : p ≡ r = cc in omega (arith, g, le)
        guard_at (Some g) r more e = guarded (is_true g args) r more e

  below_near : (sets : List (List ℕ)) (ds : List TypeDef) (n : ℕ) → AllNear (below sets ds n)
  unfolding below
  below_near sets ds zero = record { by = λ j args places cells p end le. inl refl }
  below_near sets ds (suc n) = record { by = λ j args places cells p end le. by_number (nat_eq j n) (below_near sets ds n) j args places cells p end le }
    where
      by_number : (v : Bool) → AllNear (below sets ds n) → (j : ℕ) (args places cells : List ℕ) (p end : ℕ) → p ≤ end
          → Near b c q alike (pick v (definition_meaning sets (below sets ds n) (slice_get ds n)) (below sets ds n j) args places cells b p end) (pick v (definition_meaning sets (below sets ds n) (slice_get ds n)) (below sets ds n j) args places cells c p end)
      by_number true good j args places cells p end le =
          definition_near sets (below sets ds n) (below_inside b sets ds n) (below_inside c sets ds n) good (slice_get ds n) args places cells p end le
      by_number false good j args places cells p end le = good.by j args places cells p end le

-- Both together

-- the one before q, and the other from there on
spliced : ℕ → List ℕ → List ℕ → List ℕ
spliced zero b c = c
spliced (suc q) [] c = c
spliced (suc q) (x ∷ b) [] = []
spliced (suc q) (x ∷ b) (y ∷ c) = x ∷ spliced q b c

spliced_length : (q : ℕ) (b c : List ℕ) → length (spliced q b c) ≡ length c
unfolding spliced
spliced_length zero b c = refl
spliced_length (suc q) [] c = refl
spliced_length (suc q) (x ∷ b) [] = refl
spliced_length (suc q) (x ∷ b) (y ∷ c) = ap suc (spliced_length q b c)

spliced_before : (q : ℕ) (b c : List ℕ) → length b ≡ length c → (k : ℕ) → k < q → slice_index b k ≡ slice_index (spliced q b c) k
unfolding spliced
spliced_before zero b c e k lt = absurd (omega (arith, lt))
spliced_before (suc q) [] [] e k lt = refl
spliced_before (suc q) [] (y ∷ c) e k lt = absurd (omega (arith, e))
spliced_before (suc q) (x ∷ b) [] e k lt = absurd (omega (arith, e))
spliced_before (suc q) (x ∷ b) (y ∷ c) e zero lt = refl
spliced_before (suc q) (x ∷ b) (y ∷ c) e (suc k) lt = spliced_before q b c (omega (arith, e)) k (omega (arith, lt))

spliced_from : (q : ℕ) (b c : List ℕ) → length b ≡ length c → (k : ℕ) → q ≤ k → slice_index (spliced q b c) k ≡ slice_index c k
unfolding spliced
spliced_from zero b c e k le = refl
spliced_from (suc q) [] c e k le = refl
spliced_from (suc q) (x ∷ b) [] e k le = absurd (omega (arith, e))
spliced_from (suc q) (x ∷ b) (y ∷ c) e zero le = absurd (omega (arith, le))
spliced_from (suc q) (x ∷ b) (y ∷ c) e (suc k) le = spliced_from q b c (omega (arith, e)) k (omega (arith, le))

pub reads_are_within : ReadsAreWithin
reads_are_within m entry args cells message =
    let place = entry_place (slice_get m.entries entry.number) (length m.definitions) in
    let i = (below_inside message m.listed m.definitions (length m.definitions)).by place args (places_from 0 (length cells)) cells 0 (length message) (omega arith) in
    narrowed (meaning m entry args cells message).reads i.reads
  where
    narrowed : (xs : List ℕ) → Each (Among 0 (length message)) xs → Each (λ k. k < length message) xs
    narrowed [] h = tt
    narrowed (x ∷ xs) h = (h.0.1, narrowed xs h.1)

pub reads_go_forward : ReadsGoForward
reads_go_forward m entry args cells b c q long same k le =
    let d = spliced q b c in
    let longer : length b ≡ length d = long ∙ sym (spliced_length q b c) in
    let place = entry_place (slice_get m.entries entry.number) (length m.definitions) in
    let sense = below m.listed m.definitions (length m.definitions) place args (places_from 0 (length cells)) cells in
    let near = (below_near b d q (spliced_before q b c long) m.listed m.definitions (length m.definitions)).by place args (places_from 0 (length cells)) cells 0 (length b) (omega arith) in
    let one = meaning m entry args cells b in
    let other = meaning m entry args cells d in
    let same_end : sense d 0 (length b) ≡ other = ap (λ n. sense d 0 n) longer in
    let up = up_to (sense d 0 (length b)) other same_end near in
    let decided : other ≡ meaning m entry args cells c = reads_decide m entry args cells d c (spliced_length q b c)
    (same_at_each other.reads d c (λ i h. elim (cases_lt i q) [
      | inl before ↦
          sym (spliced_before q b c long i before) ∙ at_each (λ i. i < q → slice_index b i ≡ slice_index c i) i one.reads same (up.1 i (omega (arith, before)) h) before
      | inr after ↦ spliced_from q b c long i after
    ])) in
    (λ h. subst (λ t. IsAt k t.reads) decided (up.0 k le h), λ h. up.1 k le (subst (λ t. IsAt k t.reads) (sym decided) h))
  where
    up_to : (u v : Behavior) → u ≡ v → Near b (spliced q b c) q (spliced_before q b c long) (meaning m entry args cells b) u
        → ((i : ℕ) → i ≤ q → IsAt i (meaning m entry args cells b).reads → IsAt i v.reads) × ((i : ℕ) → i ≤ q → IsAt i v.reads → IsAt i (meaning m entry args cells b).reads)
    up_to u v e (inl f) = (λ i ge h. subst (λ t. IsAt i t.reads) (f ∙ e) h, λ i ge h. subst (λ t. IsAt i t.reads) (sym (f ∙ e)) h)
    up_to u v e (inr a) = (λ i ge h. subst (λ t. IsAt i t.reads) e (a.here i ge h), λ i ge h. a.there i ge (subst (λ t. IsAt i t.reads) (sym e) h))
