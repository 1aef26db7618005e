-- What is read of two messages that agree before a place, up to that place.
use Rattle.std.proofs.Common.{◌≡◌, ℕ, zero, suc, ◌+◌, ◌-◌, ◌*◌, ◌/◌, ◌<◌, ◌≤◌, Bool, true, false, cond, min, List, [], ◌++◌, refl, sym, ap, ◌∙◌, subst, arith, inl, inr, Option, Some, None}
use Rattle.std.specs.Prelude.{◌⊎◌, slice_index, nat_eq}
use Rattle.std.proofs.lemmas.Bool.{cases_lt}
use Rattle.td_num.specs.Numbers.{bytes_in, number_at, places_from}
use Rattle.td_meaning.specs.Imports.{NumberType, Element, Number, Listed, Named, Unit as UnitElement, Rest, Zeros, Reason}
use Rattle.td_num.specs.Lists.{first_where, looked_at, one_more}
use Rattle.td_core.specs.Outcome.{Behavior, FramePlace, Ending, Accepted, Rejected, accepted, and_then, onward, within, after_reading}
use Rattle.td_meaning.specs.Meaning.{demanded, is_nonzero, byte_type, zeros_end, run_of, numbers_at, zeros_meaning, elements, zero_end, up_to_zero, element_up_to_zero}
use Rattle.td_meaning.specs.Throughout.{OnEnding}
use Rattle.td_meaning.specs.Deciding.{SameAt}
use Rattle.td_meaning.specs.Forward.{IsAt}
use Rattle.td_meaning.proofs.Ending.{on_map, on_within}
use Rattle.td_meaning.proofs.Inside.{Among, Inside, elements_inside}
use Rattle.td_meaning.proofs.Deciding.{number_same, looked_more}
use Rattle.td_meaning.proofs.Places.{at_left, at_right, at_cases, at_each, in_places, from_places}

module _ (b c : List ℕ) (q : ℕ) (alike : (k : ℕ) → k < q → slice_index b k ≡ slice_index c k) where
  abbrev pub Past : Behavior → Type 0
  Past t = OnEnding t.ending (λ r cells. q < r)

  -- they are read alike up to q, and where they accept they are past it
  pub record Apart (t u : Behavior) : Type 0 where
    pub here : (k : ℕ) → k ≤ q → IsAt k t.reads → IsAt k u.reads
    pub there : (k : ℕ) → k ≤ q → IsAt k u.reads → IsAt k t.reads
    pub one : Past t
    pub other : Past u

  abbrev pub Near : Behavior → Behavior → Type 0
  Near t u = (t ≡ u) ⊎ Apart t u

  -- behind q nothing before it is read
  none_before : (p high k : ℕ) (t : Behavior) → q < p → Inside p high t → k ≤ q → IsAt k t.reads → ⊥
  none_before p high k t past i le h = let r = at_each (Among p high) k t.reads i.reads h in omega (arith, past, le, r.0)

  past_from : (p high : ℕ) (t : Behavior) → q < p → Inside p high t → Past t
  past_from p high t past i = on_map t.ending (λ r cells. (p ≤ r) × (r ≤ high)) (λ r cells. q < r) i.ending (λ r cells h. omega (arith, past, h.0))

  pub apart_from : (p high : ℕ) (t u : Behavior) → q < p → Inside p high t → Inside p high u → Apart t u
  apart_from p high t u past i j = record {
    here = λ k le h. absurd (none_before p high k t past i le h);
    there = λ k le h. absurd (none_before p high k u past j le h);
    one = past_from p high t past i;
    other = past_from p high u past j;
  }

  pub near_reading : (places : List ℕ) (t u : Behavior) → Near t u → Near (after_reading places t) (after_reading places u)
  near_reading places t u (inl e) = inl (ap (after_reading places) e)
  near_reading places t u (inr a) = inr (record {
    here = λ k le h. elim (at_cases k places t.reads h) [ inl i ↦ at_left k places u.reads i | inr i ↦ at_right k places u.reads (a.here k le i) ];
    there = λ k le h. elim (at_cases k places u.reads h) [ inl i ↦ at_left k places t.reads i | inr i ↦ at_right k places t.reads (a.there k le i) ];
    one = a.one;
    other = a.other;
  })

  near_within : (site : FramePlace) (t u : Behavior) → Near t u → Near (within site t) (within site u)
  near_within site t u (inl e) = inl (ap (within site) e)
  near_within site t u (inr a) = inr (record {
    here = a.here;
    there = a.there;
    one = on_within site t.ending (λ r cells. q < r) a.one;
    other = on_within site u.ending (λ r cells. q < r) a.other;
  })

  -- what follows the same
  pub near_after : (t : Behavior) (go go' : ℕ → List ℕ → Behavior) → ((r : ℕ) (cells : List ℕ) → t.ending ≡ Accepted r cells → Near (go r cells) (go' r cells)) → Near (and_then t go) (and_then t go')
  near_after t go go' next = by t.ending refl
    where
      by : (o : Ending) → t.ending ≡ o → Near (onward o t.reads go) (onward o t.reads go')
      by (Accepted r cells) e = near_reading t.reads (go r cells) (go' r cells) (next r cells e)
      by (Rejected reason position trace cells) e = inl refl

  -- what follows what is past q reads nothing up to it
  pub beyond : (high : ℕ) (o : Ending) (reads : List ℕ) (go : ℕ → List ℕ → Behavior) → OnEnding o (λ r cells. q < r) → ((r : ℕ) (cells : List ℕ) → o ≡ Accepted r cells → Inside r high (go r cells))
      → (((k : ℕ) → k ≤ q → IsAt k (onward o reads go).reads → IsAt k reads) × ((k : ℕ) → IsAt k reads → IsAt k (onward o reads go).reads)) × Past (onward o reads go)
  beyond high (Accepted r cells) reads go past i =
      let inner = i r cells refl in (
        (
          λ k le h. elim (at_cases k reads (go r cells).reads h) [ inl a ↦ a | inr a ↦ absurd (none_before r high k (go r cells) past inner le a) ],
          λ k h. at_left k reads (go r cells).reads h,
        ),
        past_from r high (go r cells) past inner,
      )
  beyond high (Rejected reason position trace cells) reads go past i = ((λ k le h. h, λ k h. h), tt)

  pub near_then : (low high : ℕ) (t u : Behavior) (go go' : ℕ → List ℕ → Behavior) → Near t u → Inside low high t → Inside low high u
      → ((r : ℕ) (cells : List ℕ) → low ≤ r → r ≤ high → Inside r high (go r cells)) → ((r : ℕ) (cells : List ℕ) → low ≤ r → r ≤ high → Inside r high (go' r cells))
      → ((r : ℕ) (cells : List ℕ) → low ≤ r → r ≤ high → Near (go r cells) (go' r cells)) → Near (and_then t go) (and_then u go')
  near_then low high t u go go' (inl e) i j k l next =
      subst (λ v. Near (and_then t go) (and_then v go')) e
      (near_after t go go' (λ r cells f. let at = subst (λ o. OnEnding o (λ r cells. (low ≤ r) × (r ≤ high))) f i.ending in next r cells at.0 at.1))
  near_then low high t u go go' (inr a) i j k l next =
      let one = beyond high t.ending t.reads go a.one (λ r cells f. let at = subst (λ o. OnEnding o (λ r cells. (low ≤ r) × (r ≤ high))) f i.ending in k r cells at.0 at.1) in
      let other = beyond high u.ending u.reads go' a.other (λ r cells f. let at = subst (λ o. OnEnding o (λ r cells. (low ≤ r) × (r ≤ high))) f j.ending in l r cells at.0 at.1) in
      inr (record {
        here = λ k le h. other.0.1 k (a.here k le (one.0.0 k le h));
        there = λ k le h. one.0.1 k (a.there k le (other.0.0 k le h));
        one = one.1;
        other = other.1;
      })

  -- Numbers

  places_alike : (p w : ℕ) → p + w ≤ q → SameAt (places_from p w) b c
  places_alike p zero le = tt
  places_alike p (suc w) le = (alike p (omega (arith, le)), places_alike (p + 1) w (omega (arith, le)))

  pub number_alike : (type : NumberType) (p : ℕ) → p + bytes_in type.width ≤ q → number_at type b p ≡ number_at type c p
  number_alike type p le = number_same b c type p (places_alike p (bytes_in type.width) le)

  -- after the same places were read, both are past them
  pub apart_reading : (places : List ℕ) (t u : Behavior) → Past t → Past u → t.reads ≡ [] → u.reads ≡ [] → Near (after_reading places t) (after_reading places u)
  apart_reading places t u p p' e e' = inr (record {
    here = λ k le h. subst (λ xs. IsAt k (places ++ xs)) (e ∙ sym e') h;
    there = λ k le h. subst (λ xs. IsAt k (places ++ xs)) (e' ∙ sym e) h;
    one = p;
    other = p';
  })

  pub past_demanded : (reason : Reason) (v : Bool) (start r : ℕ) (cells : List ℕ) → q < r → Past (demanded reason v start r cells)
  past_demanded reason true start r cells h = h
  past_demanded reason false start r cells h = tt

  pub silent : (reason : Reason) (v : Bool) (start r : ℕ) (cells : List ℕ) → (demanded reason v start r cells).reads ≡ []
  silent reason true start r cells = refl
  silent reason false start r cells = refl

  -- the first number that passes a test is the same, or in both what is looked at goes past q
  record Farther (type : NumberType) (p m n : ℕ) : Type 0 where
    past : q < p + m * bytes_in type.width
    past' : q < p + n * bytes_in type.width

  some_looked : (v : Bool) (o : Option ℕ) (n : ℕ) → 1 ≤ looked_at (cond v (Some 0) (one_more o)) (suc n)
  some_looked true o n = omega arith
  some_looked false None n = omega arith
  some_looked false (Some k) n = omega arith

  abbrev found : (ℕ → Bool) → NumberType → List ℕ → ℕ → ℕ → Option ℕ
  found test type message p n = first_where test (numbers_at type message p n)

  width_past : (w p m : ℕ) → 1 ≤ m → q < p + w → q < p + m * w
  width_past w p zero some h = absurd (omega (arith, some))
  width_past w p (suc m) some h = omega (arith, h)

  one_farther : (w p m : ℕ) → q < p + w + m * w → q < p + suc m * w
  one_farther w p m h = omega (arith, h)

  first_near : (test : ℕ → Bool) (type : NumberType) (n p : ℕ)
      → (found test type b p n ≡ found test type c p n) ⊎ Farther type p (looked_at (found test type b p n) n) (looked_at (found test type c p n) n)
  first_near test type zero p = inl refl
  first_near test type (suc n) p =
      let w = bytes_in type.width in
      let r = found test type b (p + w) n in
      let r' = found test type c (p + w) n in
      elim (cases_lt q (p + w)) [
        | inl short ↦ inr (record {
          past = width_past w p (looked_at (cond (test (number_at type b p)) (Some 0) (one_more r)) (suc n)) (some_looked (test (number_at type b p)) r n) short;
          past' = width_past w p (looked_at (cond (test (number_at type c p)) (Some 0) (one_more r')) (suc n)) (some_looked (test (number_at type c p)) r' n) short;
        })
        | inr room ↦ subst
            (λ y. (cond (test (number_at type b p)) (Some 0) (one_more r) ≡ cond (test y) (Some 0) (one_more r')) ⊎ Farther type p (looked_at (cond (test (number_at type b p)) (Some 0) (one_more r)) (suc n)) (looked_at (cond (test y) (Some 0) (one_more r')) (suc n)))
            (number_alike type p room)
            (by (test (number_at type b p)) (first_near test type n (p + w)))
      ]
    where
      w : ℕ
      w = bytes_in type.width

      r : Option ℕ
      r = found test type b (p + w) n

      r' : Option ℕ
      r' = found test type c (p + w) n

      by : (v : Bool) → (r ≡ r') ⊎ Farther type (p + w) (looked_at r n) (looked_at r' n)
          → (cond v (Some 0) (one_more r) ≡ cond v (Some 0) (one_more r')) ⊎ Farther type p (looked_at (cond v (Some 0) (one_more r)) (suc n)) (looked_at (cond v (Some 0) (one_more r')) (suc n))
      by true h = inl refl
      by false (inl e) = inl (ap one_more e)
      by false (inr f) = inr (record {
        past = subst (λ m. q < p + m * w) (sym (looked_more b c r n)) (one_farther w p (looked_at r n) f.past);
        past' = subst (λ m. q < p + m * w) (sym (looked_more b c r' n)) (one_farther w p (looked_at r' n) f.past');
      })

  -- runs that both go past q are read alike up to it
  runs_near : (type : NumberType) (p m n : ℕ) (t u : Behavior) → Farther type p m n → Past t → Past u → t.reads ≡ [] → u.reads ≡ [] → Near (after_reading (run_of type p m) t) (after_reading (run_of type p n) u)
  runs_near type p m n t u f one other e e' =
      let w = bytes_in type.width in
      inr (record {
        here = λ k le h. subst (λ xs. IsAt k (run_of type p n ++ xs)) (sym e')
            (at_left k (run_of type p n) [] (in_places k p (n * w) (from_run k m t e h) (omega (arith, le, f.past'))));
        there = λ k le h. subst (λ xs. IsAt k (run_of type p m ++ xs)) (sym e)
            (at_left k (run_of type p m) [] (in_places k p (m * w) (from_run k n u e' h) (omega (arith, le, f.past))));
        one = one;
        other = other;
      })
    where
      from_run : (k m : ℕ) (t : Behavior) → t.reads ≡ [] → IsAt k (run_of type p m ++ t.reads) → p ≤ k
      from_run k m t e h = elim (at_cases k (run_of type p m) t.reads h) [
        | inl i ↦ from_places k p (m * bytes_in type.width) i
        | inr i ↦ absurd (subst (IsAt k) e i)
      ]

  zeros_past : (o : Option ℕ) (end p : ℕ) (cells : List ℕ) → p ≤ end → q < p + looked_at o (end - p) * 1 → Past (zeros_end o end p cells)
  zeros_past None end p cells le h = omega (arith, h, le)
  zeros_past (Some k) end p cells le h = tt

  zeros_silent : (o : Option ℕ) (end p : ℕ) (cells : List ℕ) → (zeros_end o end p cells).reads ≡ []
  zeros_silent None end p cells = refl
  zeros_silent (Some k) end p cells = refl

  pub zeros_near : (end p : ℕ) (cells : List ℕ) → p ≤ end → Near (zeros_meaning b end p cells) (zeros_meaning c end p cells)
  zeros_near end p cells le = elim (first_near is_nonzero byte_type (end - p) p) [
    | inl e ↦ inl (ap (λ o. after_reading (run_of byte_type p (looked_at o (end - p))) (zeros_end o end p cells)) e)
    | inr f ↦
        let o = found is_nonzero byte_type b p (end - p) in
        let o' = found is_nonzero byte_type c p (end - p) in
        runs_near byte_type p (looked_at o (end - p)) (looked_at o' (end - p)) (zeros_end o end p cells) (zeros_end o' end p cells) f
        (zeros_past o end p cells le f.past) (zeros_past o' end p cells le f.past') (zeros_silent o end p cells) (zeros_silent o' end p cells)
  ]

  zero_past : (o : Option ℕ) (n w bound room p : ℕ) (cells : List ℕ) → q < p + looked_at o n * w → Past (zero_end o w bound room p cells)
  zero_past None n w bound room p cells h = tt
  zero_past (Some k) n w bound room p cells h = h

  zero_silent : (o : Option ℕ) (w bound room p : ℕ) (cells : List ℕ) → (zero_end o w bound room p cells).reads ≡ []
  zero_silent None w bound room p cells = refl
  zero_silent (Some k) w bound room p cells = refl

  up_to_zero_near : (type : NumberType) (size end p : ℕ) (cells : List ℕ) → Near (up_to_zero type size b end p cells) (up_to_zero type size c end p cells)
  up_to_zero_near type size end p cells =
      let w = bytes_in type.width in
      let bound = size / w in
      let room = (end - p) / w in
      let n = min bound room in
      let test = λ (n : ℕ). nat_eq n 0 in
      elim (first_near test type n p) [
        | inl e ↦ inl (ap (λ o. after_reading (run_of type p (looked_at o n)) (zero_end o w bound room p cells)) e)
        | inr f ↦
            let o = found test type b p n in
            let o' = found test type c p n in
            runs_near type p (looked_at o n) (looked_at o' n) (zero_end o w bound room p cells) (zero_end o' w bound room p cells) f
            (zero_past o n w bound room p cells f.past) (zero_past o' n w bound room p cells f.past') (zero_silent o w bound room p cells) (zero_silent o' w bound room p cells)
      ]

  pub element_up_to_zero_near : (element : Element) (size end p : ℕ) (cells : List ℕ) → Near (element_up_to_zero element size b end p cells) (element_up_to_zero element size c end p cells)
  element_up_to_zero_near (Number type) size end p cells = up_to_zero_near type size end p cells
  element_up_to_zero_near (Listed base k) size end p cells = inl refl
  element_up_to_zero_near (Named j args own) size end p cells = inl refl
  element_up_to_zero_near UnitElement size end p cells = inl refl
  element_up_to_zero_near Rest size end p cells = inl refl
  element_up_to_zero_near Zeros size end p cells = inl refl

  pub elements_near : (each each' : ℕ → List ℕ → Behavior) (start end : ℕ) → ((r : ℕ) (cells : List ℕ) → r ≤ end → Inside r end (each r cells)) → ((r : ℕ) (cells : List ℕ) → r ≤ end → Inside r end (each' r cells))
      → ((r : ℕ) (cells : List ℕ) → r ≤ end → Near (each r cells) (each' r cells)) → (turns p : ℕ) (cells : List ℕ) → p ≤ end → Near (elements each turns start end p cells) (elements each' turns start end p cells)
  unfolding elements
  elements_near each each' start end i j h zero p cells le = inl refl
  elements_near each each' start end i j h (suc turns) p cells le = by (nat_eq p end) (λ r more ge. elements_near each each' start end i j h turns r more ge)
    where
      by : (v : Bool) → ((r : ℕ) (more : List ℕ) → r ≤ end → Near (elements each turns start end r more) (elements each' turns start end r more))
          → Near (cond v (accepted p cells) (and_then (each p cells) (elements each turns start end))) (cond v (accepted p cells) (and_then (each' p cells) (elements each' turns start end)))
      by true later = inl refl
      by false later = near_then p end (each p cells) (each' p cells) (elements each turns start end) (elements each' turns start end) (h p cells le) (i p cells le) (j p cells le)
          (λ r more lo hi. elements_inside each start end i turns r more hi) (λ r more lo hi. elements_inside each' start end j turns r more hi) (λ r more lo hi. later r more hi)
