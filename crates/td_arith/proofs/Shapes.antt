-- Cited by other crates.
-- Each expression that a field's shape evaluates is sound, and a field ends before the end.
use Rattle.std.specs.Prelude.{int_lt, pos}
use Rattle.td_arith.specs.Imports.{Room, NumberType, Element, Number, Listed, Named, Unit as UnitElement, Rest, Zeros, Extent, Once, Filling, OnceFilling, UpToZero, Given, Source, Expression, FromCell, Left, CopyOut, TypeDef, Constraint, ListSize}
use Rattle.td_expr.specs.Range.{range_of}
use Rattle.std.proofs.Common.{◌≡◌, ℕ, zero, suc, ◌+◌, ◌-◌, ◌/◌, ◌^◌, ◌<◌, ◌≤◌, Bool, true, false, cond, min, List, [], ◌∷◌, map, refl, sym, subst, arith, Option, Some, None, slice_get, slice_index, nat_eq}
use Rattle.std.proofs.lemmas.Option.{none-some}
use Rattle.std.proofs.Math.Nat.{div-mul-le_self, mul-le-mul_right}
use Rattle.td_num.specs.Numbers.{bytes_in, number_at, places_from}
use Rattle.td_num.specs.Lists.{is_among, first_where}
use Rattle.td_num.proofs.Lists.{found_below}
use Rattle.td_core.specs.Term.{Term}
use Rattle.td_core.specs.WellFormed.{OfSome}
use Rattle.td_core.specs.Outcome.{Behavior, accepted, and_then, after_reading}
use Rattle.td_expr.specs.Facts.{Fact}
use Rattle.td_expr.specs.Safe.{first_unsafe}
use Rattle.td_expr.specs.Sound.{Sound}
use Rattle.td_expr.proofs.Admitting.{neither}
use Rattle.td_meaning.specs.Doing.{natural_of}
use Rattle.td_arith.specs.SafeModule.{list_unsafe, element_unsafe, source_unsafe, extent_unsafe, value_range, value_unsafe, room_unsafe, copy_unsafe}
use Rattle.td_core.specs.Formed.{Bound, AllFit, AreArgsFormed, AreCellsFormed, params_at, own_at, part_bound, IsElementFormed, IsSourceFormed, IsExtentFormed}
use Rattle.td_meaning.specs.Meaning.{Sense, values, values_of, taken, demanded, is_nonzero, byte_type, zeros_end, numbers_at, element_meaning, elements, divides, equals, zero_end, up_to_zero, element_up_to_zero, shape_meaning, with_copy, content_meaning}
use Rattle.td_meaning.specs.Throughout.{Through, OnEnding, OnAll, OnElement, OnElements, OnSource, OnShape, OnContent}
use Rattle.td_arith.proofs.Fitting.{Stand, stand_at}
use Rattle.td_arith.proofs.Copies.{CopyStands, within_room, spare_sound, copy_fits}
use Rattle.td_arith.proofs.States.{State, sound, number_fits}
use Rattle.td_meaning.proofs.Ending.{Between, on_then, on_map, on_demanded, on_taken}
use Rattle.td_meaning.proofs.Filling.{count_of}

-- what is known of a definition, on each message
abbrev pub IsGood : List ℕ → List Bound → List Bound → Sense → Through → Type 0
IsGood message params cells sense through =
    (all : List Bound) (args places more : List ℕ) (p end : ℕ) → AllFit params args → Stand all cells places → AllFit all more → p ≤ end → end < 2 ^ 32
    → through args places more message p end × OnEnding (sense args places more message p end).ending (Between all p end)

pub args_fit : (scope : List Bound) (facts : List Fact) (env : List ℕ) (bs : List Bound) (args : List Term) → AreArgsFormed scope bs args → State scope facts env → list_unsafe facts args ≡ None
    → OnAll Sound args env × AllFit bs (values args env)
args_fit scope facts env [] [] form s u = (tt, tt)
args_fit scope facts env [] (e ∷ es) form s u = absurd form
args_fit scope facts env (b ∷ bs) [] form s u = absurd form
args_fit scope facts env (b ∷ bs) (e ∷ es) form s u =
    let h = neither (first_unsafe facts e) (list_unsafe facts es) u in
    let g = sound scope facts env e s form.0 h.0 in
    let rest = args_fit scope facts env bs es form.1.1 s h.1 in
    ((g, rest.0), (number_fits env e b.most g form.1.0, rest.1))

pub cells_stand : (all bounds : List Bound) (places : List ℕ) (bs : List Bound) (own : List ℕ) → AreCellsFormed bounds bs own → Stand all bounds places → Stand all bs (map (slice_index places) own)
cells_stand all bounds places [] [] form st = tt
cells_stand all bounds places [] (k ∷ ks) form st = absurd form
cells_stand all bounds places (b ∷ bs) [] form st = absurd form
cells_stand all bounds places (b ∷ bs) (k ∷ ks) form st = (stand_at all bounds places k b form.0 st, cells_stand all bounds places bs ks form.1 st)

zeros_between : (all : List Bound) (first : Option ℕ) (end p : ℕ) (cells : List ℕ) → p ≤ end → AllFit all cells → OnEnding (zeros_end first end p cells).ending (Between all p end)
zeros_between all None end p cells le f = ((le, omega arith), f)
zeros_between all (Some k) end p cells le f = tt

taken_between : (all : List Bound) (n start end p : ℕ) (cells : List ℕ) → AllFit all cells → OnEnding (taken n start end p cells).ending (Between all p end)
taken_between all n start end p cells f =
    on_map (taken n start end p cells).ending (λ q more. (q ≡ p + n) × ((q ≤ end) × AllFit all more)) (Between all p end) (on_taken all n start end p cells f)
    (λ q more h. let e = h.0 in ((omega (arith, e), h.1.0), h.1.1))

module _ (sets : List (List ℕ)) (senses : ℕ → Sense) (throughs : ℕ → Through) (ds : List TypeDef) (n : ℕ) (message : List ℕ)
    (good : (j : ℕ) → j < n → IsGood message (params_at (slice_get ds j)) (own_at (slice_get ds j)) (senses j) (throughs j))
    (all bounds scope : List Bound) (facts : List Fact) (env places : List ℕ) (s : State scope facts env) (st : Stand all bounds places) where
  pub element_sound : (element : Element) (start end p : ℕ) (cells : List ℕ) → IsElementFormed ds n bounds scope element → element_unsafe facts element ≡ None → p ≤ end → end < 2 ^ 32 → AllFit all cells
      → OnElement Sound throughs element env places message end p cells × OnEnding (element_meaning sets senses element env places message start end p cells).ending (Between all p end)
  element_sound (Number type) start end p cells form u le low f = (tt, taken_between all (bytes_in type.width) start end p cells f)
  element_sound (Listed base k) start end p cells form u le low f = (
    tt,
    on_then (taken (bytes_in base.width) start end p cells).ending (taken (bytes_in base.width) start end p cells).reads
        (λ q cells. after_reading (places_from p (bytes_in base.width)) (demanded Constraint (is_among (values_of sets k) (number_at base message p)) start q cells))
        (Between all p end) (Between all p end) (taken_between all (bytes_in base.width) start end p cells f)
        (λ q more h. on_demanded Constraint (is_among (values_of sets k) (number_at base message p)) start q more (Between all p end) (λ t. h)),
  )
  element_sound (Named j args own) start end p cells form u le low f =
      let a = args_fit scope facts env (params_at (slice_get ds j)) args form.1.0 s u in
      let g = good j form.0 all (values args env) (map (slice_index places) own) cells p end a.1 (cells_stand all bounds places (own_at (slice_get ds j)) own form.1.1 st) f le low in
      ((a.0, g.0), g.1)
  element_sound UnitElement start end p cells form u le low f = (tt, ((omega arith, le), f))
  element_sound Rest start end p cells form u le low f = (tt, ((le, omega arith), f))
  element_sound Zeros start end p cells form u le low f = (tt, zeros_between all (first_where is_nonzero (numbers_at byte_type message p (end - p))) end p cells le f)

  goes_on : (b : Bool) (one other : Behavior) (P : ℕ → List ℕ → Type 0) → (b ≡ true → OnEnding one.ending P) → (b ≡ false → OnEnding other.ending P) → OnEnding (cond b one other).ending P
  goes_on true one other P h k = h refl
  goes_on false one other P h k = k refl

  elements_sound : (element : Element) (start end : ℕ) → IsElementFormed ds n bounds scope element → element_unsafe facts element ≡ None → end < 2 ^ 32 → (turns p : ℕ) (cells : List ℕ) → p ≤ end → AllFit all cells
      → OnElements Sound (OnElement Sound throughs element env places message end) (element_meaning sets senses element env places message start end) turns end p cells
      × OnEnding (elements (element_meaning sets senses element env places message start end) turns start end p cells).ending (Between all p end)
  unfolding elements
  elements_sound element start end form u low zero p cells le f =
      (tt, on_demanded ListSize (nat_eq p end) start p cells (Between all p end) (λ t. ((omega arith, le), f)))
  elements_sound element start end form u low (suc turns) p cells le f =
      let each = element_meaning sets senses element env places message start end in
      let one = element_sound element start end p cells form u le low f in
      let more : (q : ℕ) (rest : List ℕ) → Between all p end q rest → OnElements Sound (OnElement Sound throughs element env places message end) each turns end q rest × OnEnding (elements each turns start end q rest).ending (Between all p end) =
      λ q rest h.
      let r = elements_sound element start end form u low turns q rest h.0.1 h.1 in
      (r.0, on_map (elements each turns start end q rest).ending (Between all q end) (Between all p end) r.1 (λ t last k. ((omega (arith, h.0.0, k.0.0), k.0.1), k.1))) in (
        (λ e. (one.0, on_map (each p cells).ending (Between all p end) (OnElements Sound (OnElement Sound throughs element env places message end) each turns end) one.1 (λ q rest h. (more q rest h).0))),
        goes_on (nat_eq p end) (accepted p cells) (and_then (each p cells) (elements each turns start end)) (Between all p end)
            (λ e. ((omega arith, le), f))
            (λ e. on_then (each p cells).ending (each p cells).reads (elements each turns start end) (Between all p end) (Between all p end) one.1 (λ q rest h. (more q rest h).1)),
      )

  zero_between : (first : Option ℕ) (w bound end p : ℕ) (cells : List ℕ) → ((k : ℕ) → first ≡ Some k → k < min bound ((end - p) / w)) → p ≤ end → AllFit all cells
      → OnEnding (zero_end first w bound ((end - p) / w) p cells).ending (Between all p end)
  zero_between None w bound end p cells h le f = tt
  zero_between (Some k) w bound end p cells h le f =
      let small : suc k ≤ (end - p) / w = omega (arith, h k refl) in
      let more = mul-le-mul_right w small in
      let room = div-mul-le_self (end - p) w in
      ((omega arith, omega (arith, more, room)), f)

  up_to_zero_between : (type : NumberType) (size end p : ℕ) (cells : List ℕ) → p ≤ end → AllFit all cells → OnEnding (up_to_zero type size message end p cells).ending (Between all p end)
  up_to_zero_between type size end p cells le f =
      let w = bytes_in type.width in
      let m = min (size / w) ((end - p) / w) in
      zero_between (first_where (λ x. nat_eq x 0) (numbers_at type message p m)) w (size / w) end p cells
      (λ k e. subst (λ c. k < c) (count_of type message p m) (found_below (λ x. nat_eq x 0) (numbers_at type message p m) k e)) le f

  element_up_to_zero_between : (element : Element) (size end p : ℕ) (cells : List ℕ) → p ≤ end → AllFit all cells → OnEnding (element_up_to_zero element size message end p cells).ending (Between all p end)
  element_up_to_zero_between (Number type) size end p cells le f = up_to_zero_between type size end p cells le f
  element_up_to_zero_between (Listed base k) size end p cells le f = tt
  element_up_to_zero_between (Named j args own) size end p cells le f = tt
  element_up_to_zero_between UnitElement size end p cells le f = tt
  element_up_to_zero_between Rest size end p cells le f = tt
  element_up_to_zero_between Zeros size end p cells le f = tt

  source_sound : (most : ℕ) (b : Bound) (source : Source) → IsSourceFormed bounds scope b source → source_unsafe facts most source ≡ None → OnSource Sound source env
  source_sound most b (Expression span e) form u =
      sound scope facts env e s form (neither (value_unsafe span (int_lt (pos most) (value_range facts e).high)) (first_unsafe facts e) u).1
  source_sound most b (FromCell c) form u = tt
  source_sound most b Left form u = tt

  pub shape_sound : (element : Element) (extent : Extent) (end p : ℕ) (cells : List ℕ) → IsElementFormed ds n bounds scope element → IsExtentFormed bounds scope element extent
      → element_unsafe facts element ≡ None → extent_unsafe facts element extent ≡ None → p ≤ end → end < 2 ^ 32 → AllFit all cells
      → OnShape Sound sets senses throughs element extent env places message end p cells
      × OnEnding (shape_meaning sets senses element extent env places message end p cells).ending (Between all p end)
  shape_sound element Once end p cells form sized u v le low f = element_sound element p end p cells form u le low f
  shape_sound element (Filling size step) end p cells form sized u v le low f =
      let m = natural_of size env in
      let each = element_meaning sets senses element env places message p in
      let ok = divides step m in
      let rest : (q : ℕ) (more : List ℕ) → Between all p end q more → OnElements Sound (OnElement Sound throughs element env places message q) (each q) (suc m) q p more × OnEnding (elements (each q) (suc m) p q p more).ending (Between all p q) =
      λ q more h. elements_sound element p q form u (omega (arith, low, h.0.1)) (suc m) p more h.0.0 h.1 in (
        (
          sound scope facts env size s sized v,
          on_map (taken m p end p cells).ending (Between all p end)
              (λ q more. OnEnding (demanded ListSize ok p p more).ending (OnElements Sound (OnElement Sound throughs element env places message q) (each q) (suc m) q))
              (taken_between all m p end p cells f)
              (λ q more h. on_demanded ListSize ok p p more (OnElements Sound (OnElement Sound throughs element env places message q) (each q) (suc m) q) (λ t. (rest q more h).0)),
        ),
        on_then (taken m p end p cells).ending (taken m p end p cells).reads (λ q more. and_then (demanded ListSize ok p p more) (elements (each q) (suc m) p q)) (Between all p end) (Between all p end)
            (taken_between all m p end p cells f)
            (λ q more h. on_then (demanded ListSize ok p p more).ending (demanded ListSize ok p p more).reads (elements (each q) (suc m) p q)
            (λ r last. (r ≡ p) × (last ≡ more)) (Between all p end)
            (on_demanded ListSize ok p p more (λ r last. (r ≡ p) × (last ≡ more)) (λ t. (refl, refl)))
            (λ r last k. subst (λ x. OnEnding (elements (each q) (suc m) p q x last).ending (Between all p end)) (sym k.0)
            (subst (λ x. OnEnding (elements (each q) (suc m) p q p x).ending (Between all p end)) (sym k.1)
            (on_map (elements (each q) (suc m) p q p more).ending (Between all p q) (Between all p end) (rest q more h).1 (λ t final g. ((g.0.0, omega (arith, g.0.1, h.0.1)), g.1)))))),
      )
  shape_sound element (OnceFilling size step) end p cells form sized u v le low f =
      let m = natural_of size env in
      let each = element_meaning sets senses element env places message p in
      let ok = equals step m in
      let rest : (q : ℕ) (more : List ℕ) → Between all p end q more → OnElement Sound throughs element env places message q p more × OnEnding (each q p more).ending (Between all p q) =
      λ q more h. element_sound element p q p more form u h.0.0 (omega (arith, low, h.0.1)) h.1 in
      let closing : (q r : ℕ) (more : List ℕ) → q ≤ end → Between all p q r more → OnEnding (demanded ListSize (nat_eq r q) p r more).ending (Between all p end) =
      λ q r more k g. on_demanded ListSize (nat_eq r q) p r more (Between all p end) (λ t. ((g.0.0, omega (arith, g.0.1, k)), g.1)) in (
        (
          sound scope facts env size s sized v,
          on_map (taken m p end p cells).ending (Between all p end)
              (λ q more. OnEnding (demanded ListSize ok p p more).ending (OnElement Sound throughs element env places message q))
              (taken_between all m p end p cells f)
              (λ q more h. on_demanded ListSize ok p p more (OnElement Sound throughs element env places message q) (λ t. (rest q more h).0)),
        ),
        on_then (taken m p end p cells).ending (taken m p end p cells).reads
            (λ q more. and_then (demanded ListSize ok p p more) (λ x more. and_then (each q x more) (λ r more. demanded ListSize (nat_eq r q) p r more))) (Between all p end) (Between all p end)
            (taken_between all m p end p cells f)
            (λ q more h. on_then (demanded ListSize ok p p more).ending (demanded ListSize ok p p more).reads (λ x more. and_then (each q x more) (λ r more. demanded ListSize (nat_eq r q) p r more))
            (λ r last. (r ≡ p) × (last ≡ more)) (Between all p end)
            (on_demanded ListSize ok p p more (λ r last. (r ≡ p) × (last ≡ more)) (λ t. (refl, refl)))
            (λ r last k. subst (λ x. OnEnding (and_then (each q x last) (λ r more. demanded ListSize (nat_eq r q) p r more)).ending (Between all p end)) (sym k.0)
            (subst (λ x. OnEnding (and_then (each q p x) (λ r more. demanded ListSize (nat_eq r q) p r more)).ending (Between all p end)) (sym k.1)
            (on_then (each q p more).ending (each q p more).reads (λ r more. demanded ListSize (nat_eq r q) p r more) (Between all p q) (Between all p end) (rest q more h).1 (λ r final g. closing q r final h.0.1 g))))),
      )
  shape_sound element (UpToZero size) end p cells form sized u v le low f =
      (sound scope facts env size s sized v, element_up_to_zero_between element (natural_of size env) end p cells le f)
  shape_sound element (Given source) end p cells form sized u v le low f =
      (source_sound (part_bound element (Given source) None).most (part_bound element (Given source) None) source sized v, ((omega arith, le), f))

  has_room : (c : CopyOut) (b : Bool) → room_unsafe c b ≡ None → b ≡ false
  has_room c true u = absurd (none-some (Room c.span) (sym u))
  has_room c false u = refl

  pub content_sound : (element : Element) (extent : Extent) (copy : Option CopyOut) (end p : ℕ) (cells : List ℕ) → IsElementFormed ds n bounds scope element → IsExtentFormed bounds scope element extent
      → OfSome (CopyStands bounds) copy → element_unsafe facts element ≡ None → extent_unsafe facts element extent ≡ None → copy_unsafe facts copy extent ≡ None → p ≤ end → end < 2 ^ 32 → AllFit all cells
      → OnContent Sound sets senses throughs element extent copy env places message end p cells
      × OnEnding (content_meaning sets senses element extent copy env places message end p cells).ending (Between all p end)
  content_sound element extent None end p cells form sized held u v w le low f = shape_sound element extent end p cells form sized u v le low f
  content_sound element (Filling size step) (Some c) end p cells form sized held u v w le low f =
      let m = natural_of size env in
      let g = sound scope facts env size s sized v in
      let fit = within_room scope facts env size c.room s sized v (has_room c (int_lt (pos c.room) (range_of facts size).high) w) in
      let start : p < 2 ^ 32 = omega (arith, le, low) in (
        (g, spare_sound c size env held.room g fit),
        on_then (taken m p end p cells).ending (taken m p end p cells).reads (λ q more. after_reading (places_from p m) (accepted q (with_copy c places p m more)))
            (λ q more. (q ≡ p + m) × ((q ≤ end) × AllFit all more)) (Between all p end) (on_taken all m p end p cells f)
            (λ q more h. let e = h.0 in ((omega (arith, e), h.1.0), copy_fits all bounds places c p m more st held start fit h.1.1)),
      )
  content_sound element Once (Some c) end p cells form sized held u v w le low f = shape_sound element Once end p cells form sized u v le low f
  content_sound element (OnceFilling size step) (Some c) end p cells form sized held u v w le low f = shape_sound element (OnceFilling size step) end p cells form sized u v le low f
  content_sound element (UpToZero size) (Some c) end p cells form sized held u v w le low f = shape_sound element (UpToZero size) end p cells form sized u v le low f
  content_sound element (Given source) (Some c) end p cells form sized held u v w le low f = shape_sound element (Given source) end p cells form sized u v le low f
