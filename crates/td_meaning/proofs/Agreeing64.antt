-- A number that isn't needed may be taken for another: what arithmetic in 64 bits gives rests on the values that are Cited by other crates.
-- named alone.
use Rattle.std.proofs.Common.{◌≡◌, ℕ, suc, ◌-◌, List, [], ◌∷◌, ◌++◌, length, map, Bool, true, false, Option, Some, None, refl, sym, ap, ◌∙◌, arith, subst, inl, inr, length-append}
use Rattle.std.specs.Prelude.{slice_index, slice_set, ◌||◌, is_some}
use Rattle.std.proofs.lemmas.Bool.{eq-eqb, false≢true}
use Rattle.td_core.specs.Term.{Term, number, name, complement, negation, compute, compare, both, either, choice, range_okay, Deed, done, set, keep, fork, answer, give_up}
use Rattle.td_core.specs.Types.{limit, type_of}
use Rattle.td_meaning.specs.Imports.{NameId, Element, Number, Listed, Named, Unit as UnitElement, Rest, Zeros, CopyOut, Extent, Once, Filling, OnceFilling, UpToZero, Given, Source, Expression, FromCell, Left, Part, Field, Constraint}
use Rattle.td_core.specs.Outcome.{Ending, Accepted, Rejected, Behavior, after_reading, onward, and_then, within}
use Rattle.td_expr.specs.Naming.{names, deed_names}
use Rattle.td_expr.specs.Value.{chosen, flip}
use Rattle.td_meaning.specs.Doing.{Effect, On, Returned, Aborted, after, either_way}
use Rattle.td_meaning.specs.Naming.{some_name, in_option, part_names, parts_name, element_names, source_names, extent_names, field_names, fields_name, is_needed}
use Rattle.td_meaning.specs.Meaning.{Sense, demanded, filled, filled_once, element_up_to_zero, ended, bits_of, field_place, number_places, first_name, extended}
use Rattle.td_meaning.specs.Words64.{truth_number, is_truth, applied, compared_by, range_okay_by, value_of, values, is_met, doing, acted, checked, with_part, parts_meaning, element_meaning, shape_meaning, copied_meaning, content_meaning, given_value, field_number, fields_meaning}
use Rattle.td_meaning.proofs.Agreeing.{Agree, weaker, on_left, on_right, agree_more}
use Rattle.td_num.proofs.Truths.{or_right, or_cases, or_left}

pub value_same : (e : Term) (env other : List ℕ) → Agree (λ i. names i e) env other → value_of e env ≡ value_of e other
unfolding value_of
value_same (number n w) env other a = refl
value_same (name i w most) env other a = a.at i (eq-eqb i i refl)
value_same (complement x) env other a = ap (λ v. limit (type_of x) - 1 - v) (value_same x env other a)
value_same (negation x) env other a = ap (λ v. truth_number (flip (is_truth v))) (value_same x env other a)
value_same (compute op span x y) env other a =
    let p = value_same x env other (on_left (λ i. names i x) (λ i. names i y) env other a) in
    let q = value_same y env other (on_right (λ i. names i x) (λ i. names i y) env other a) in
    λ i. applied op (type_of x) (p i) (q i)
value_same (compare r x y) env other a =
    let p = value_same x env other (on_left (λ i. names i x) (λ i. names i y) env other a) in
    let q = value_same y env other (on_right (λ i. names i x) (λ i. names i y) env other a) in
    λ i. compared_by r (p i) (q i)
value_same (both x y) env other a =
    let p = value_same x env other (on_left (λ i. names i x) (λ i. names i y) env other a) in
    let q = value_same y env other (on_right (λ i. names i x) (λ i. names i y) env other a) in
    λ i. truth_number (chosen (is_truth (p i)) (is_truth (q i)) false)
value_same (either x y) env other a =
    let p = value_same x env other (on_left (λ i. names i x) (λ i. names i y) env other a) in
    let q = value_same y env other (on_right (λ i. names i x) (λ i. names i y) env other a) in
    λ i. truth_number (chosen (is_truth (p i)) true (is_truth (q i)))
value_same (choice t x y) env other a =
    let rest = on_right (λ i. names i t) (λ i. names i x || names i y) env other a in
    let c = value_same t env other (on_left (λ i. names i t) (λ i. names i x || names i y) env other a) in
    let p = value_same x env other (on_left (λ i. names i x) (λ i. names i y) env other rest) in
    let q = value_same y env other (on_right (λ i. names i x) (λ i. names i y) env other rest) in
    λ i. chosen (is_truth (c i)) (p i) (q i)
value_same (range_okay t x y) env other a =
    let rest = on_right (λ i. names i t) (λ i. names i x || names i y) env other a in
    let c = value_same t env other (on_left (λ i. names i t) (λ i. names i x || names i y) env other a) in
    let p = value_same x env other (on_left (λ i. names i x) (λ i. names i y) env other rest) in
    let q = value_same y env other (on_right (λ i. names i x) (λ i. names i y) env other rest) in
    λ i. range_okay_by (c i) (p i) (q i)

values_same : (es : List Term) (env other : List ℕ) → Agree (λ i. some_name i es) env other → values es env ≡ values es other
values_same [] env other a = refl
values_same (e ∷ es) env other a =
    let p = value_same e env other (on_left (λ i. names i e) (λ i. some_name i es) env other a) in
    let q = values_same es env other (on_right (λ i. names i e) (λ i. some_name i es) env other a) in
    λ i. p i ∷ q i

met_same : (o : Option Term) (env other : List ℕ) → Agree (λ i. in_option (names i) o) env other → is_met o env ≡ is_met o other
unfolding is_met
met_same None env other a = refl
met_same (Some e) env other a = ap is_truth (value_same e env other a)

after_same : (x : Effect) (go next : List ℕ → Effect) → ((cells : List ℕ) → go cells ≡ next cells) → after x go ≡ after x next
after_same (On cells) go next h = h cells
after_same (Returned value cells) go next h = refl
after_same (Aborted cells) go next h = refl

doing_same : (x : Deed) (env other places cells : List ℕ) → Agree (λ i. deed_names i x) env other → doing x env places cells ≡ doing x other places cells
doing_same done env other places cells a = refl
doing_same (set cell e then) env other places cells a =
    let v = value_same e env other (on_left (λ i. names i e) (λ i. deed_names i then) env other a) in
    (λ i. doing then env places (slice_set cells (slice_index places cell) (v i)))
    ∙ doing_same then env other places (slice_set cells (slice_index places cell) (value_of e other)) (on_right (λ i. names i e) (λ i. deed_names i then) env other a)
doing_same (keep cell then) env other places cells a =
    let v = slice_index cells (slice_index places cell) in
    doing_same then (env ++ v ∷ []) (other ++ v ∷ []) places cells (agree_more (λ i. deed_names i then) env other v v a (λ _. refl))
doing_same (fork test one two then) env other places cells a =
    let a1 = on_right (λ i. names i test) (λ i. deed_names i one || (deed_names i two || deed_names i then)) env other a in
    let a2 = on_right (λ i. deed_names i one) (λ i. deed_names i two || deed_names i then) env other a1 in
    let v = value_same test env other (on_left (λ i. names i test) (λ i. deed_names i one || (deed_names i two || deed_names i then)) env other a) in
    let p = doing_same one env other places cells (on_left (λ i. deed_names i one) (λ i. deed_names i two || deed_names i then) env other a1) in
    let q = doing_same two env other places cells (on_left (λ i. deed_names i two) (λ i. deed_names i then) env other a2) in
    (λ i. after (either_way (is_truth (v i)) (p i) (q i)) (doing then env places))
    ∙ after_same (either_way (is_truth (value_of test other)) (doing one other places cells) (doing two other places cells)) (doing then env places) (doing then other places)
    (λ cells. doing_same then env other places cells (on_right (λ i. deed_names i two) (λ i. deed_names i then) env other a2))
doing_same (answer e) env other places cells a = ap (λ v. Returned (is_truth v) cells) (value_same e env other a)
doing_same give_up env other places cells a = refl

acted_same : (o : Option Deed) (env other places : List ℕ) (start q : ℕ) (cells : List ℕ) → Agree (λ i. in_option (deed_names i) o) env other → acted o env places start q cells ≡ acted o other places start q cells
acted_same None env other places start q cells a = refl
acted_same (Some x) env other places start q cells a =
    ap (λ e. ended e start q) (doing_same x (env ++ start ∷ []) (other ++ start ∷ []) places cells (agree_more (λ i. deed_names i x) env other start start a (λ _. refl)))

-- what follows is the same
pub onward_alike : (o : Ending) (reads : List ℕ) (go next : ℕ → List ℕ → Behavior) → ((q : ℕ) (cells : List ℕ) → go q cells ≡ next q cells) → onward o reads go ≡ onward o reads next
onward_alike (Accepted q cells) reads go next h = ap (after_reading reads) (h q cells)
onward_alike (Rejected reason position trace cells) reads go next h = refl

pub then_alike : (t u : Behavior) (go next : ℕ → List ℕ → Behavior) → t ≡ u → ((q : ℕ) (cells : List ℕ) → go q cells ≡ next q cells) → and_then t go ≡ and_then u next
then_alike t u go next e h = ap (λ t. and_then t go) e ∙ onward_alike u.ending u.reads go next h

checked_same : (x : Part) (env other places : List ℕ) (start q : ℕ) (cells : List ℕ) → Agree (λ i. part_names i x) env other → checked x env places start q cells ≡ checked x other places start q cells
checked_same x env other places start q cells a =
    let test = λ (i : ℕ). in_option (names i) x.refinement in
    let act = λ (i : ℕ). in_option (deed_names i) x.action in
    then_alike (demanded Constraint (is_met x.refinement env) start q cells) (demanded Constraint (is_met x.refinement other) start q cells) (acted x.action env places start) (acted x.action other places start)
    (ap (λ b. demanded Constraint b start q cells) (met_same x.refinement env other (on_left test act env other a)))
    (λ q cells. acted_same x.action env other places start q cells (on_right test act env other a))

-- Parts, and what names them

-- what the parts and the later fields name
abbrev pub tail : List Part → List Field → ℕ → Bool
tail parts later i = parts_name i parts || fields_name i later

pub some_named : (o : Option Term) (i : ℕ) → in_option (names i) o ≡ true → is_some o ≡ true
some_named None i t = t
some_named (Some e) i t = refl

-- the value of the first part is named only where it is needed
needed_here : (x : Part) (xs : List Part) (later : List Field) (i : ℕ) → (part_names i x || tail xs later i) ≡ true → is_needed i (x ∷ xs) later ≡ true
needed_here x xs later i t =
    let r = is_some x.refinement in
    let act = in_option (deed_names i) x.action in
    let more = parts_name i xs || (fields_name i later || is_needed (suc i) xs later) in
    elim (or_cases (part_names i x) (tail xs later i) t) [
      | inl own ↦ elim (or_cases (in_option (names i) x.refinement) act own) [
        | inl test ↦ or_left r (act || more) (some_named x.refinement i test)
        | inr action ↦ or_right r (act || more) (or_left act more action)
      ]
      | inr after ↦ or_right r (act || more) (or_right act more (elim (or_cases (parts_name i xs) (fields_name i later) after) [
        | inl part ↦ or_left (parts_name i xs) (fields_name i later || is_needed (suc i) xs later) part
        | inr field ↦ or_right (parts_name i xs) (fields_name i later || is_needed (suc i) xs later) (or_left (fields_name i later) (is_needed (suc i) xs later) field)
      ]))
    ]

pub needed_later : (x : Part) (xs : List Part) (later : List Field) (i : ℕ) → is_needed (suc i) xs later ≡ true → is_needed i (x ∷ xs) later ≡ true
needed_later x xs later i t =
    let more = parts_name i xs || (fields_name i later || is_needed (suc i) xs later) in
    or_right (is_some x.refinement) (in_option (deed_names i) x.action || more)
    (or_right (in_option (deed_names i) x.action) more
    (or_right (parts_name i xs) (fields_name i later || is_needed (suc i) xs later) (or_right (fields_name i later) (is_needed (suc i) xs later) t)))

one_part_same : (x : Part) (xs : List Part) (later : List Field) (env other : List ℕ) (n m : ℕ) → Agree (tail (x ∷ xs) later) env other → (is_needed (length env) (x ∷ xs) later ≡ true → n ≡ m) → Agree (λ i. part_names i x || tail xs later i) (with_part env n x) (with_part other m x)
one_part_same x xs later env other n m a h =
    agree_more (λ i. part_names i x || tail xs later i) env other (bits_of x.bits n) (bits_of x.bits m)
    (weaker (tail (x ∷ xs) later) (λ i. part_names i x || tail xs later i) env other a (λ i t. elim (or_cases (part_names i x) (tail xs later i) t) [
      | inl own ↦ or_left (part_names i x || parts_name i xs) (fields_name i later) (or_left (part_names i x) (parts_name i xs) own)
      | inr after ↦ elim (or_cases (parts_name i xs) (fields_name i later) after) [
        | inl part ↦ or_left (part_names i x || parts_name i xs) (fields_name i later) (or_right (part_names i x) (parts_name i xs) part)
        | inr field ↦ or_right (part_names i x || parts_name i xs) (fields_name i later) field
      ]
    ]))
    (λ t. ap (λ k. bits_of x.bits k) (h (needed_here x xs later (length env) t)))

next_needed : (x : Part) (xs : List Part) (later : List Field) (env : List ℕ) (v n m : ℕ) → (is_needed (length env) (x ∷ xs) later ≡ true → n ≡ m) → is_needed (length (env ++ v ∷ [])) xs later ≡ true → n ≡ m
next_needed x xs later env v n m h t =
    let e : length (env ++ v ∷ []) ≡ suc (length env) = omega (arith, length-append env (v ∷ [])) in
    h (needed_later x xs later (length env) (subst (λ k. is_needed k xs later ≡ true) e t))

parts_same : (ty : NameId) (start n m : ℕ) (later : List Field) (parts : List Part) (env other places : List ℕ) (q : ℕ) (cells : List ℕ) → Agree (tail parts later) env other → (is_needed (length env) parts later ≡ true → n ≡ m) → parts_meaning ty start n parts env places q cells ≡ parts_meaning ty start m parts other places q cells
unfolding parts_meaning
parts_same ty start n m later [] env other places q cells a h = refl
parts_same ty start n m later (x ∷ xs) env other places q cells a h =
    let env1 = with_part env n x in
    let other1 = with_part other m x in
    let a1 = one_part_same x xs later env other n m a h in
    let place = field_place ty x.name start in
    then_alike (within place (checked x env1 places start q cells)) (within place (checked x other1 places start q cells)) (parts_meaning ty start n xs env1 places) (parts_meaning ty start m xs other1 places)
    (ap (within place) (checked_same x env1 other1 places start q cells (on_left (λ i. part_names i x) (tail xs later) env1 other1 a1)))
    (λ r cells. parts_same ty start n m later xs env1 other1 places r cells (on_right (λ i. part_names i x) (tail xs later) env1 other1 a1) (next_needed x xs later env (bits_of x.bits n) n m h))

extended_same : (n m : ℕ) (later : List Field) (parts : List Part) (env other : List ℕ) → Agree (tail parts later) env other → (is_needed (length env) parts later ≡ true → n ≡ m) → Agree (λ i. fields_name i later) (extended env n parts) (extended other m parts)
extended_same n m later [] env other a h = on_right (λ i. false) (λ i. fields_name i later) env other a
extended_same n m later (x ∷ xs) env other a h =
    let env1 = with_part env n x in
    let other1 = with_part other m x in
    extended_same n m later xs env1 other1 (on_right (λ i. part_names i x) (tail xs later) env1 other1 (one_part_same x xs later env other n m a h)) (next_needed x xs later env (bits_of x.bits n) n m h)

-- Fields

module _ (sets : List (List ℕ)) (senses : ℕ → Sense) (message : List ℕ) where
  element_same : (el : Element) (env other places : List ℕ) (start end p : ℕ) (cells : List ℕ) → Agree (λ i. element_names i el) env other → element_meaning sets senses el env places message start end p cells ≡ element_meaning sets senses el other places message start end p cells
  element_same (Number type) env other places start end p cells a = refl
  element_same (Listed base k) env other places start end p cells a = refl
  element_same (Named j args own) env other places start end p cells a = ap (λ vs. senses j vs (map (slice_index places) own) cells message p end) (values_same args env other a)
  element_same UnitElement env other places start end p cells a = refl
  element_same Rest env other places start end p cells a = refl
  element_same Zeros env other places start end p cells a = refl

  -- elements alike everywhere
  each_same : (el : Element) (env other places : List ℕ) → Agree (λ i. element_names i el) env other → element_meaning sets senses el env places message ≡ element_meaning sets senses el other places message
  each_same el env other places a = λ i start end p cells. element_same el env other places start end p cells a i

  shape_same : (el : Element) (extent : Extent) (env other places : List ℕ) (end p : ℕ) (cells : List ℕ) → Agree (λ i. element_names i el) env other → Agree (λ i. extent_names i extent) env other → shape_meaning sets senses el extent env places message end p cells ≡ shape_meaning sets senses el extent other places message end p cells
  shape_same el Once env other places end p cells a s = element_same el env other places p end p cells a
  shape_same el (Filling size step) env other places end p cells a s =
      let e = each_same el env other places a in
      let v = value_same size env other s in
      λ i. filled (e i p) step (v i) end p cells
  shape_same el (OnceFilling size step) env other places end p cells a s =
      let e = each_same el env other places a in
      let v = value_same size env other s in
      λ i. filled_once (e i p) step (v i) end p cells
  shape_same el (UpToZero size) env other places end p cells a s = ap (λ v. element_up_to_zero el v message end p cells) (value_same size env other s)
  shape_same el (Given source) env other places end p cells a s = refl

  content_same : (el : Element) (extent : Extent) (copy : Option CopyOut) (env other places : List ℕ) (end p : ℕ) (cells : List ℕ) → Agree (λ i. element_names i el) env other → Agree (λ i. extent_names i extent) env other → content_meaning sets senses el extent copy env places message end p cells ≡ content_meaning sets senses el extent copy other places message end p cells
  content_same el extent None env other places end p cells a s = shape_same el extent env other places end p cells a s
  content_same el (Filling size step) (Some c) env other places end p cells a s = ap (λ n. copied_meaning c places n end p cells) (value_same size env other s)
  content_same el Once (Some c) env other places end p cells a s = shape_same el Once env other places end p cells a s
  content_same el (OnceFilling size step) (Some c) env other places end p cells a s = shape_same el (OnceFilling size step) env other places end p cells a s
  content_same el (UpToZero size) (Some c) env other places end p cells a s = shape_same el (UpToZero size) env other places end p cells a s
  content_same el (Given source) (Some c) env other places end p cells a s = shape_same el (Given source) env other places end p cells a s

  given_same : (source : Source) (env other places : List ℕ) (end p : ℕ) (cells : List ℕ) → Agree (λ i. source_names i source) env other → given_value source env places end p cells ≡ given_value source other places end p cells
  given_same (Expression span e) env other places end p cells s = value_same e env other s
  given_same (FromCell cell) env other places end p cells s = refl
  given_same Left env other places end p cells s = refl

  number_same : (el : Element) (extent : Extent) (env other places : List ℕ) (end p : ℕ) (cells : List ℕ) → Agree (λ i. extent_names i extent) env other → field_number el extent env places message end p cells ≡ field_number el extent other places message end p cells
  number_same (Number type) Once env other places end p cells s = refl
  number_same (Number type) (Filling size step) env other places end p cells s = refl
  number_same (Number type) (OnceFilling size step) env other places end p cells s = refl
  number_same (Number type) (UpToZero size) env other places end p cells s = refl
  number_same (Number type) (Given source) env other places end p cells s = given_same source env other places end p cells s
  number_same (Listed base k) Once env other places end p cells s = refl
  number_same (Listed base k) (Filling size step) env other places end p cells s = refl
  number_same (Listed base k) (OnceFilling size step) env other places end p cells s = refl
  number_same (Listed base k) (UpToZero size) env other places end p cells s = refl
  number_same (Listed base k) (Given source) env other places end p cells s = refl
  number_same (Named j args own) extent env other places end p cells s = refl
  number_same UnitElement extent env other places end p cells s = refl
  number_same Rest extent env other places end p cells s = refl
  number_same Zeros extent env other places end p cells s = refl

  pub fields_same : (ty : NameId) (fs : List Field) (env other places : List ℕ) (end p : ℕ) (cells : List ℕ) → Agree (λ i. fields_name i fs) env other → fields_meaning sets senses ty fs env places message end p cells ≡ fields_meaning sets senses ty fs other places message end p cells
  unfolding fields_meaning
  fields_same ty [] env other places end p cells a = refl
  fields_same ty (f ∷ later) env other places end p cells a =
      let own = on_left (λ i. field_names i f) (λ i. fields_name i later) env other a in
      let own' = on_right (λ i. element_names i f.element) (λ i. extent_names i f.extent || parts_name i f.parts) env other own in
      let after : Agree (tail f.parts later) env other = weaker (λ i. fields_name i (f ∷ later)) (tail f.parts later) env other a (λ i t. elim (or_cases (parts_name i f.parts) (fields_name i later) t) [
        | inl part ↦ or_left (field_names i f) (fields_name i later) (or_right (element_names i f.element) (extent_names i f.extent || parts_name i f.parts) (or_right (extent_names i f.extent) (parts_name i f.parts) part))
        | inr field ↦ or_right (field_names i f) (fields_name i later) field
      ]) in
      let sized = on_left (λ i. extent_names i f.extent) (λ i. parts_name i f.parts) env other own' in
      let n = field_number f.element f.extent env places message end p cells in
      let m = field_number f.element f.extent other places message end p cells in
      let place = field_place ty (first_name f.parts) p in
      let shape = content_same f.element f.extent f.copy env other places end p cells
      (on_left (λ i. element_names i f.element) (λ i. extent_names i f.extent || parts_name i f.parts) env other own) sized in
      let rest = λ (k : ℕ) (v : List ℕ) (x q : ℕ) (c : List ℕ). after_reading (number_places (is_needed k f.parts later) f.element f.extent p) (and_then (parts_meaning ty p x f.parts v places q c) (fields_meaning sets senses ty later (extended v x f.parts) places message end)) in
      then_alike (within place (content_meaning sets senses f.element f.extent f.copy env places message end p cells)) (within place (content_meaning sets senses f.element f.extent f.copy other places message end p cells))
      (rest (length env) env n) (rest (length other) other m)
      (ap (within place) shape)
      (λ q c. ap (λ k. rest k env n q c) a.long
      ∙ ap (after_reading (number_places (is_needed (length other) f.parts later) f.element f.extent p))
      (rest_alike ty f later env other places end p n m q c after (λ _. number_same f.element f.extent env other places end p cells sized) (λ env other r e b. fields_same ty later env other places end r e b)))
    where
      rest_alike : (ty : NameId) (f : Field) (later : List Field) (env other places : List ℕ) (end start n m q : ℕ) (cells : List ℕ) → Agree (tail f.parts later) env other → (is_needed (length env) f.parts later ≡ true → n ≡ m)
          → ((env other : List ℕ) (r : ℕ) (e : List ℕ) → Agree (λ i. fields_name i later) env other → fields_meaning sets senses ty later env places message end r e ≡ fields_meaning sets senses ty later other places message end r e)
          → and_then (parts_meaning ty start n f.parts env places q cells) (fields_meaning sets senses ty later (extended env n f.parts) places message end)
          ≡ and_then (parts_meaning ty start m f.parts other places q cells) (fields_meaning sets senses ty later (extended other m f.parts) places message end)
      rest_alike ty f later env other places end start n m q cells a h k =
          then_alike (parts_meaning ty start n f.parts env places q cells) (parts_meaning ty start m f.parts other places q cells)
          (fields_meaning sets senses ty later (extended env n f.parts) places message end) (fields_meaning sets senses ty later (extended other m f.parts) places message end)
          (parts_same ty start n m later f.parts env other places q cells a h)
          (λ r e. k (extended env n f.parts) (extended other m f.parts) r e (extended_same n m later f.parts env other a h))

  -- a number that isn't needed may be taken for another
  pub unneeded : (ty : NameId) (parts : List Part) (later : List Field) (env places : List ℕ) (n m end start q : ℕ) (cells : List ℕ) → is_needed (length env) parts later ≡ false
      → and_then (parts_meaning ty start n parts env places q cells) (fields_meaning sets senses ty later (extended env n parts) places message end)
      ≡ and_then (parts_meaning ty start m parts env places q cells) (fields_meaning sets senses ty later (extended env m parts) places message end)
  unneeded ty parts later env places n m end start q cells h =
      let alike : Agree (tail parts later) env env = record { long = refl; at = λ i t. refl } in
      let apart : is_needed (length env) parts later ≡ true → n ≡ m = λ t. absurd (false≢true (sym h ∙ t)) in
      then_alike (parts_meaning ty start n parts env places q cells) (parts_meaning ty start m parts env places q cells)
      (fields_meaning sets senses ty later (extended env n parts) places message end) (fields_meaning sets senses ty later (extended env m parts) places message end)
      (parts_same ty start n m later parts env env places q cells alike apart)
      (λ r e. fields_same ty later (extended env n parts) (extended env m parts) places end r e (extended_same n m later parts env env alike apart))
