-- How what stands in a field ends.
use Rattle.std.proofs.Common.{◌≡◌, ℕ, zero, suc, ◌+◌, ◌-◌, ◌/◌, ◌^◌, ◌∙◌, ◌<◌, ◌≤◌, min, Bool, true, false, cond, List, [], ◌∷◌, length, map, refl, ap, subst, arith, Option, Some, None, nat_eq, nat_le, slice_index, slice_set, mul-le-mul_right, div-mul-le_self}
use Rattle.std.proofs.lemmas.Option.{none-some, same_Some}
use Rattle.std.proofs.lemmas.List.{length-set}
use Rattle.td_num.specs.Numbers.{bytes_in, number_at, places_from}
use Rattle.td_num.specs.Lists.{is_among, first_where}
use Rattle.td_num.proofs.Lists.{found_below}
use Rattle.td_meaning.specs.Imports.{Element, Number, Listed, Named, Unit as UnitElement, Rest, Zeros, Extent, Once, Filling, OnceFilling, UpToZero, Given, CopyOut, Constraint, ListSize}
use Rattle.td_core.specs.Outcome.{Behavior, accepted, after_reading, and_then}
use Rattle.td_expr.specs.Sound.{Sound}
use Rattle.td_meaning.specs.Doing.{natural_of}
use Rattle.td_meaning.specs.Meaning.{Sense, numbers_at, demanded, taken, values_of, byte_type, is_nonzero, zeros_end, values, element_meaning, elements, divides, equals, zero_end, element_up_to_zero, shape_meaning, with_copy, content_meaning}
use Rattle.td_meaning.specs.Throughout.{Through, OnEnding, OnElement, OnElements, OnShape, OnContent}
use Rattle.td_meaning.specs.Endings.{AreCells, IsEndingWithin}
use Rattle.td_meaning.proofs.EndingCells.{within_more, within_then, within_demanded, within_taken, demanded_at, on_both, set_small, number_small}
use Rattle.td_meaning.proofs.Filling.{count_of, anywhere}

-- a definition ends so, where what it evaluates lies in its range
abbrev pub IsGood : ℕ → List ℕ → Sense → Through → Type 0
IsGood count message sense through =
    (args places cells : List ℕ) (p end : ℕ) → p ≤ end → end < 2 ^ 64 → AreCells count cells → through args places cells message p end → IsEndingWithin end count (sense args places cells message p end).ending

zeros_within : (end count p : ℕ) (message cells : List ℕ) → p ≤ end → AreCells count cells → (o : Option ℕ) → first_where is_nonzero (numbers_at byte_type message p (end - p)) ≡ o → IsEndingWithin end count (zeros_end o end p cells).ending
zeros_within end count p message cells le small None e = (omega arith, small)
zeros_within end count p message cells le small (Some k) e =
    let lt = found_below is_nonzero (numbers_at byte_type message p (end - p)) k e in
    (omega (arith, le, lt, count_of byte_type message p (end - p)), (tt, small))

zero_within : (end count w bound p : ℕ) (cells : List ℕ) (o : Option ℕ) → ((k : ℕ) → o ≡ Some k → k < min bound ((end - p) / w)) → p ≤ end → AreCells count cells → IsEndingWithin end count (zero_end o w bound ((end - p) / w) p cells).ending
zero_within end count w bound p cells None h le small = (le, (tt, small))
zero_within end count w bound p cells (Some k) h le small =
    let few : suc k ≤ (end - p) / w = omega (arith, h k refl) in
    let more = mul-le-mul_right w few in
    let room = div-mul-le_self (end - p) w in
    (omega (arith, more, room, le), small)

module _ (count : ℕ) (sets : List (List ℕ)) (senses : ℕ → Sense) (throughs : ℕ → Through) (message : List ℕ) (good : (j : ℕ) → IsGood count message (senses j) (throughs j)) (env places : List ℕ) where
  element_within : (element : Element) (start end p : ℕ) (cells : List ℕ) → start ≤ end → p ≤ end → end < 2 ^ 64 → AreCells count cells → OnElement Sound throughs element env places message end p cells
      → IsEndingWithin end count (element_meaning sets senses element env places message start end p cells).ending
  element_within (Number type) start end p cells before le low small h = within_taken end count (bytes_in type.width) start p cells before small
  element_within (Listed base k) start end p cells before le low small h =
      let ok = is_among (values_of sets k) (number_at base message p) in
      let first = taken (bytes_in base.width) start end p cells in
      within_then end count first.ending first.reads (λ q cells. after_reading (places_from p (bytes_in base.width)) (demanded Constraint ok start q cells))
      (λ q more. q ≡ p + bytes_in base.width) (within_taken end count (bytes_in base.width) start p cells before small)
      (demanded_at _ (nat_le (p + bytes_in base.width) end) start (p + bytes_in base.width) cells)
      (λ q more at few on. within_demanded end count Constraint ok start q more before (λ t. at) few)
  element_within (Named j args own) start end p cells before le low small h = good j (values args env) (map (slice_index places) own) cells p end le low small h.1
  element_within UnitElement start end p cells before le low small h = (le, small)
  element_within Rest start end p cells before le low small h = (omega arith, small)
  element_within Zeros start end p cells before le low small h = zeros_within end count p message cells le small (first_where is_nonzero (numbers_at byte_type message p (end - p))) refl

  elements_within : (through : ℕ → List ℕ → Type 0) (each : ℕ → List ℕ → Behavior) (start end : ℕ) → start ≤ end
      → ((q : ℕ) (cells : List ℕ) → q ≤ end → AreCells count cells → through q cells → IsEndingWithin end count (each q cells).ending)
      → (turns p : ℕ) (cells : List ℕ) → p ≤ end → AreCells count cells → OnElements Sound through each turns end p cells → IsEndingWithin end count (elements each turns start end p cells).ending
  unfolding elements
  elements_within through each start end before one zero p cells le small h = within_demanded end count ListSize (nat_eq p end) start p cells before (λ t. le) small
  elements_within through each start end before one (suc turns) p cells le small h = by (nat_eq p end) refl (elements_within through each start end before one turns)
    where
      by : (b : Bool) → nat_eq p end ≡ b
          → ((p : ℕ) (cells : List ℕ) → p ≤ end → AreCells count cells → OnElements Sound through each turns end p cells → IsEndingWithin end count (elements each turns start end p cells).ending)
          → IsEndingWithin end count (cond b (accepted p cells) (and_then (each p cells) (elements each turns start end))).ending
      by true e later = (le, small)
      by false e later =
          let g = h e in
          within_then end count (each p cells).ending (each p cells).reads (elements each turns start end) (OnElements Sound through each turns end) (one p cells le small g.0) g.1 (λ q more at few on. later q more at few on)

  up_to_zero_within : (element : Element) (size end p : ℕ) (cells : List ℕ) → p ≤ end → AreCells count cells → IsEndingWithin end count (element_up_to_zero element size message end p cells).ending
  up_to_zero_within (Number type) size end p cells le small =
      let w = bytes_in type.width in
      let m = min (size / w) ((end - p) / w) in
      zero_within end count w (size / w) p cells (first_where (λ x. nat_eq x 0) (numbers_at type message p m))
      (λ k e. subst (λ c. k < c) (count_of type message p m) (found_below (λ x. nat_eq x 0) (numbers_at type message p m) k e)) le small
  up_to_zero_within (Listed base k) size end p cells le small = (le, (tt, small))
  up_to_zero_within (Named j args own) size end p cells le small = (le, (tt, small))
  up_to_zero_within UnitElement size end p cells le small = (le, (tt, small))
  up_to_zero_within Rest size end p cells le small = (le, (tt, small))
  up_to_zero_within Zeros size end p cells le small = (le, (tt, small))

  pub shape_within : (element : Element) (extent : Extent) (end p : ℕ) (cells : List ℕ) → p ≤ end → end < 2 ^ 64 → AreCells count cells → OnShape Sound sets senses throughs element extent env places message end p cells
      → IsEndingWithin end count (shape_meaning sets senses element extent env places message end p cells).ending
  shape_within element Once end p cells le low small h = element_within element p end p cells le le low small h
  shape_within element (Filling size step) end p cells le low small h =
      let m = natural_of size env in
      let each = element_meaning sets senses element env places message p in
      let ok = divides step m in
      let room = taken m p end p cells in
      let Then : ℕ → List ℕ → Type 0 = λ q more. OnEnding (demanded ListSize ok p p more).ending (OnElements Sound (OnElement Sound throughs element env places message q) (each q) (suc m) q) in
      within_then end count room.ending room.reads (λ q more. and_then (demanded ListSize ok p p more) (elements (each q) (suc m) p q)) (λ q more. (q ≡ p + m) × Then q more)
      (within_taken end count m p p cells le small) (on_both room.ending (λ q more. q ≡ p + m) Then (demanded_at _ (nat_le (p + m) end) p (p + m) cells) h.1)
      (λ q more at few on.
      let enough : p ≤ q = omega (arith, on.0) in
      let short : q < 2 ^ 64 = omega (arith, at, low) in
      let test = demanded ListSize ok p p more in
      let Elements : ℕ → List ℕ → Type 0 = OnElements Sound (OnElement Sound throughs element env places message q) (each q) (suc m) q in
      within_more q end count (and_then test (elements (each q) (suc m) p q)).ending at
      (within_then q count test.ending test.reads (elements (each q) (suc m) p q) Elements (within_demanded q count ListSize ok p p more enough (λ t. enough) few) on.1
      (λ r last there few on. elements_within (OnElement Sound throughs element env places message q) (each q) p q enough (λ x cells at small g. element_within element p q x cells enough at short small g) (suc m) r last there few on)))
  shape_within element (OnceFilling size step) end p cells le low small h =
      let m = natural_of size env in
      let each = element_meaning sets senses element env places message p in
      let ok = equals step m in
      let room = taken m p end p cells in
      let Then : ℕ → List ℕ → Type 0 = λ q more. OnEnding (demanded ListSize ok p p more).ending (OnElement Sound throughs element env places message q) in
      within_then end count room.ending room.reads (λ q more. and_then (demanded ListSize ok p p more) (λ x more. and_then (each q x more) (λ r more. demanded ListSize (nat_eq r q) p r more))) (λ q more. (q ≡ p + m) × Then q more)
      (within_taken end count m p p cells le small) (on_both room.ending (λ q more. q ≡ p + m) Then (demanded_at _ (nat_le (p + m) end) p (p + m) cells) h.1)
      (λ q more at few on.
      let enough : p ≤ q = omega (arith, on.0) in
      let short : q < 2 ^ 64 = omega (arith, at, low) in
      let test = demanded ListSize ok p p more in
      let rest : ℕ → List ℕ → Behavior = λ x more. and_then (each q x more) (λ r more. demanded ListSize (nat_eq r q) p r more) in
      within_more q end count (and_then test rest).ending at
      (within_then q count test.ending test.reads rest (OnElement Sound throughs element env places message q) (within_demanded q count ListSize ok p p more enough (λ t. enough) few) on.1
      (λ x last there few on. within_then q count (each q x last).ending (each q x last).reads (λ r more. demanded ListSize (nat_eq r q) p r more) (λ r more. Unit {0})
      (element_within element p q x last enough there short few on) (anywhere (each q x last).ending) (λ r final here few on. within_demanded q count ListSize (nat_eq r q) p r final enough (λ t. here) few))))
  shape_within element (UpToZero size) end p cells le low small h = up_to_zero_within element (natural_of size env) end p cells le small
  shape_within element (Given source) end p cells le low small h = (le, small)

  copy_cells : (c : CopyOut) (p n : ℕ) (cells : List ℕ) → p < 2 ^ 64 → n < 2 ^ 64 → AreCells count cells → AreCells count (with_copy c places p n cells)
  copy_cells c p n cells low few small =
      let i = slice_index places c.cell in
      let j = slice_index places (c.cell + 1) in
      let once = slice_set cells i p in
      (length-set once j n ∙ length-set cells i p ∙ small.0, set_small once j n few (set_small cells i p low small.1))

  pub content_within : (element : Element) (extent : Extent) (copy : Option CopyOut) (end p : ℕ) (cells : List ℕ) → p ≤ end → end < 2 ^ 64 → AreCells count cells
      → OnContent Sound sets senses throughs element extent copy env places message end p cells → IsEndingWithin end count (content_meaning sets senses element extent copy env places message end p cells).ending
  content_within element extent None end p cells le low small h = shape_within element extent end p cells le low small h
  content_within element (Filling size step) (Some c) end p cells le low small h =
      let m = natural_of size env in
      let room = taken m p end p cells in
      let start : p < 2 ^ 64 = omega (arith, le, low) in
      within_then end count room.ending room.reads (λ q more. after_reading (places_from p m) (accepted q (with_copy c places p m more))) (λ q more. q ≡ p + m)
      (within_taken end count m p p cells le small) (demanded_at _ (nat_le (p + m) end) p (p + m) cells) (λ q more at few on. (at, copy_cells c p m more start (number_small size env h.0) few))
  content_within element Once (Some c) end p cells le low small h = shape_within element Once end p cells le low small h
  content_within element (OnceFilling size step) (Some c) end p cells le low small h = shape_within element (OnceFilling size step) end p cells le low small h
  content_within element (UpToZero size) (Some c) end p cells le low small h = shape_within element (UpToZero size) end p cells le low small h
  content_within element (Given source) (Some c) end p cells le low small h = shape_within element (Given source) end p cells le low small h
