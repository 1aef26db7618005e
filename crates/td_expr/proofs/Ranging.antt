-- Where each operator is safe, values lie in their types' ranges. Cited by other crates.
use Rattle.std.proofs.Common.{◌≡◌, ℕ, zero, suc, ◌<◌, ◌≤◌, ◌+◌, Bool, true, false, refl, sym, ap, subst, ◌∙◌, inl, inr, arith, List, ◌++◌, ℤ, pos, negsuc, Option, Some, None}
use Rattle.std.specs.Prelude.{◌-ℤ◌, ◌+ℤ◌, ◌||◌, ◌&&◌, int_lt, nat_le, slice_index}
use Rattle.std.proofs.lemmas.Bool.{ltb-true, eqb-true, false≢true, and_parts, or_cases}
use Rattle.td_expr.specs.Imports.{Scalar, Binary, Add, Subtract, Multiply, Divide, Remainder, BitAnd, BitOr, BitXor, ShiftLeft, ShiftRight, Relation, Equal, NotEqual, Less, LessEqual, Greater, GreaterEqual}
use Rattle.td_core.specs.Term.{Term, number, name, complement, negation, compute, compare, both, either, choice, range_okay}
use Rattle.td_core.specs.Types.{bits, limit, wider, computed_type, type_of}
use Rattle.td_expr.specs.Value.{value_of, truth_of, flip, chosen, computed, related, int_eq, natural}
use Rattle.td_expr.specs.Same.{same, constant_of}
use Rattle.td_expr.specs.Facts.{no_span, Fact, facts_of, mirrored, some_fact}
use Rattle.td_expr.specs.Range.{Range}
use Rattle.td_expr.specs.Range.{from_to, least, greatest, range_of, narrowed, whole, computed_range}
use Rattle.td_expr.specs.Safe.{up_to, says_up_to, is_zero, is_apart, is_at_most, says_not_zero, bounds_sum, says_sum, is_below, is_safe, AllSafe}
use Rattle.td_expr.specs.Sound.{FitsScalar, InType, Sound, Known, Holds, AllHold}
use Rattle.td_expr.specs.Laws.{ValuesInRange}
use Rattle.td_expr.proofs.Widths.{limit_pos, limit_small, wide_enough, wider_left, wider_right}
use Rattle.td_expr.proofs.Folding.{same_value, constant_is}
use Rattle.td_expr.proofs.Reaching.{Contains, IsNatural, natural_low, least_starts_left, least_starts_right, starts_above, flip_true, greatest_left, greatest_right, whole_contains, Admitted, computed_fits, computed_contains, sum_fits, product_fits, apart_ranges, sum_below, related_mirrored}
use Rattle.td_expr.proofs.Holding.{in_type, as_number, below_limit, truth_fits, all_append, at_most_numbers, facts_hold, related_at, computed_in_type, narrowed_holds, found}

at_most_is : (r : Relation) → is_at_most r ≡ true → r ≡ LessEqual
at_most_is LessEqual h = refl
at_most_is r h = absurd (false≢true h)

apart_is : (r : Relation) → is_apart r ≡ true → r ≡ NotEqual
apart_is NotEqual h = refl
apart_is r h = absurd (false≢true h)

zero_is : (o : Option ℕ) → is_zero o ≡ true → o ≡ Some 0
zero_is (Some n) h = ap Some (eqb-true n 0 h)
zero_is None h = absurd (false≢true h)

up_to_numbers : (r : Relation) (m n : ℕ) → up_to r ≡ true → related r (pos m) (pos n) ≡ true → m ≤ n
up_to_numbers Equal m n u h = omega (arith, eqb-true m n h)
up_to_numbers NotEqual m n u h = absurd (false≢true u)
up_to_numbers Less m n u h = let lt : m < n = ltb-true m n h in omega (arith, lt)
up_to_numbers LessEqual m n u h = at_most_numbers m n h
up_to_numbers Greater m n u h = absurd (false≢true u)
up_to_numbers GreaterEqual m n u h = absurd (false≢true u)

-- a fact says that b is up to a
is_up_to : (a b : Term) (env : List ℕ) (x y : ℕ) (f : Fact) → value_of a env ≡ pos x → value_of b env ≡ pos y → says_up_to b a f ≡ true → Holds f env → y ≤ x
is_up_to a b env x y f p q e h = elim (or_cases (up_to f.relation && (same f.left b && same f.right a)) (up_to (mirrored f.relation) && (same f.right b && same f.left a)) e) [
  | inl here ↦
      let u = and_parts (up_to f.relation) (same f.left b && same f.right a) here in
      let v = and_parts (same f.left b) (same f.right a) u.1 in
      up_to_numbers f.relation y x u.0
      (related_at f.relation (value_of f.left env) (value_of f.right env) (pos y) (pos x) (same_value f.left b env v.0 ∙ q) (same_value f.right a env v.1 ∙ p) h.relates)
  | inr there ↦
      let u = and_parts (up_to (mirrored f.relation)) (same f.right b && same f.left a) there in
      let v = and_parts (same f.right b) (same f.left a) u.1 in
      up_to_numbers (mirrored f.relation) y x u.0
      (related_mirrored f.relation (pos x) (pos y)
      (related_at f.relation (value_of f.left env) (value_of f.right env) (pos x) (pos y) (same_value f.left a env v.1 ∙ p) (same_value f.right b env v.0 ∙ q) h.relates))
]

not_zero : (y : ℕ) → flip (int_eq (pos y) (pos 0)) ≡ true → 0 < y
not_zero zero h = absurd (false≢true h)
not_zero (suc y) h = omega arith

not_zero_turned : (y : ℕ) → flip (int_eq (pos 0) (pos y)) ≡ true → 0 < y
not_zero_turned zero h = absurd (false≢true h)
not_zero_turned (suc y) h = omega arith

is_not_zero : (b : Term) (env : List ℕ) (y : ℕ) (f : Fact) → value_of b env ≡ pos y → says_not_zero b f ≡ true → Holds f env → 0 < y
is_not_zero b env y f q e h =
    let u = and_parts (is_apart f.relation) ((same f.left b && is_zero (constant_of f.right)) || (same f.right b && is_zero (constant_of f.left))) e in
    let t = subst (λ r. related r (value_of f.left env) (value_of f.right env) ≡ true) (apart_is f.relation u.0) h.relates in
    elim (or_cases (same f.left b && is_zero (constant_of f.right)) (same f.right b && is_zero (constant_of f.left)) u.1) [
      | inl here ↦
          let v = and_parts (same f.left b) (is_zero (constant_of f.right)) here in
          not_zero y (related_at NotEqual (value_of f.left env) (value_of f.right env) (pos y) (pos 0)
          (same_value f.left b env v.0 ∙ q) (constant_is f.right 0 env (zero_is (constant_of f.right) v.1)) t)
      | inr there ↦
          let v = and_parts (same f.right b) (is_zero (constant_of f.left)) there in
          not_zero_turned y (related_at NotEqual (value_of f.left env) (value_of f.right env) (pos 0) (pos y)
          (constant_is f.left 0 env (zero_is (constant_of f.left) v.1)) (same_value f.right b env v.0 ∙ q) t)
    ]

-- a sum that is at most a number of its own type
bounded_by : (w : Scalar) (c d left : Term) (env : List ℕ) (m n : ℕ) → nat_le (bits (type_of c)) (bits w) ≡ true → Sound c env → value_of left env ≡ pos m → value_of d env ≡ pos n
    → related LessEqual (value_of left env) (value_of (compute Subtract no_span c d) env) ≡ true → m + n < limit w
bounded_by w c d left env m n wide s p q t =
    let z = natural (value_of c env) in
    let e = as_number (type_of c) (value_of c env) (in_type c env s) in
    let below = below_limit (type_of c) (value_of c env) (in_type c env s) in
    let g = subst (λ v. related LessEqual (value_of left env) (v -ℤ value_of d env) ≡ true) e t in
    let h = subst (λ v. related LessEqual (value_of left env) (pos z -ℤ v) ≡ true) q g in
    let i = subst (λ v. related LessEqual v (pos z -ℤ pos n) ≡ true) p h in
    omega (arith, below, sum_below m n z i, wide_enough (type_of c) w wide)

bounded : (w : Scalar) (a b left right : Term) (env : List ℕ) (x y : ℕ) → value_of a env ≡ pos x → value_of b env ≡ pos y → bounds_sum w a b left right ≡ true
    → Sound right env → related LessEqual (value_of left env) (value_of right env) ≡ true → x + y < limit w
bounded w a b left (compute Subtract span c d) env x y p q e s t =
    let u = and_parts (nat_le (bits (type_of c)) (bits w)) ((same left a && same d b) || (same left b && same d a)) e in
    elim (or_cases (same left a && same d b) (same left b && same d a) u.1) [
      | inl here ↦
          let v = and_parts (same left a) (same d b) here in
          bounded_by w c d left env x y u.0 s.1.0 (same_value left a env v.0 ∙ p) (same_value d b env v.1 ∙ q) t
      | inr there ↦
          let v = and_parts (same left b) (same d a) there in
          let turned = bounded_by w c d left env y x u.0 s.1.0 (same_value left b env v.0 ∙ q) (same_value d a env v.1 ∙ p) t in
          omega (arith, turned)
    ]
bounded w a b left right env x y p q e s t = absurd (false≢true e)

safe_admits : (fs : List Fact) (op : Binary) (a b : Term) (env : List ℕ) (x y : ℕ) → is_safe fs op a b ≡ true → AllHold fs env → value_of a env ≡ pos x → value_of b env ≡ pos y
    → Contains (range_of fs a) x → Contains (range_of fs b) y → Admitted op (type_of a) (type_of b) x y
safe_admits fs Add a b env x y e h p q i j =
    let w = wider (type_of a) (type_of b) in
    elim (or_cases (is_below (((range_of fs a).high +ℤ (range_of fs b).high)) (limit w)) (some_fact (says_sum w a b) fs) e) [
      | inl fit ↦ sum_fits (range_of fs a).high (range_of fs b).high x y (limit w) (limit_small w) i.to j.to fit
      | inr relates ↦
          let f = found (says_sum w a b) fs env h relates in
          let u = and_parts (is_at_most f.fact.relation) (bounds_sum w a b f.fact.left f.fact.right) f.passes in
          bounded w a b f.fact.left f.fact.right env x y p q u.1 f.holds.right
          (subst (λ r. related r (value_of f.fact.left env) (value_of f.fact.right env) ≡ true) (at_most_is f.fact.relation u.0) f.holds.relates)
    ]
safe_admits fs Subtract a b env x y e h p q i j = elim (or_cases (some_fact (says_up_to b a) fs) (flip (int_lt (range_of fs a).low (range_of fs b).high)) e) [
  | inl relates ↦ let f = found (says_up_to b a) fs env h relates in is_up_to a b env x y f.fact p q f.passes f.holds
  | inr apart ↦ apart_ranges (range_of fs a).low (range_of fs b).high x y i.from j.to (flip_true (int_lt (range_of fs a).low (range_of fs b).high) apart)
]
safe_admits fs Multiply a b env x y e h p q i j = product_fits (range_of fs a).high (range_of fs b).high x y (limit (wider (type_of a) (type_of b))) (limit_small (wider (type_of a) (type_of b))) i.to j.to e
safe_admits fs Divide a b env x y e h p q i j = elim (or_cases (int_lt (pos 0) (range_of fs b).low) (some_fact (says_not_zero b) fs) e) [
  | inl low ↦ starts_above (range_of fs b).low y j.from low
  | inr relates ↦ let f = found (says_not_zero b) fs env h relates in is_not_zero b env y f.fact q f.passes f.holds
]
safe_admits fs Remainder a b env x y e h p q i j = elim (or_cases (int_lt (pos 0) (range_of fs b).low) (some_fact (says_not_zero b) fs) e) [
  | inl low ↦ starts_above (range_of fs b).low y j.from low
  | inr relates ↦ let f = found (says_not_zero b) fs env h relates in is_not_zero b env y f.fact q f.passes f.holds
]
safe_admits fs BitAnd a b env x y e h p q i j = tt
safe_admits fs BitOr a b env x y e h p q i j = tt
safe_admits fs BitXor a b env x y e h p q i j = tt
safe_admits fs ShiftLeft a b env x y e h p q i j = tt
safe_admits fs ShiftRight a b env x y e h p q i j = tt

pub record Good (fs : List Fact) (t : Term) (env : List ℕ) : Type 0 where
  pub sound : Sound t env
  pub inside : Contains (range_of fs t) (natural (value_of t env))

-- a value in its type, with the facts' cuts
cut_down : (fs : List Fact) (t : Term) (env : List ℕ) (range : Range) → AllHold fs env → InType t env → Contains range (natural (value_of t env)) → Contains (narrowed fs t range) (natural (value_of t env))
cut_down fs t env range h i c = narrowed_holds fs t env range (natural (value_of t env)) h (as_number (type_of t) (value_of t env) i) c

all_of : (fs : List Fact) (t : Term) (env : List ℕ) → AllHold fs env → InType t env → Contains (narrowed fs t (whole (type_of t))) (natural (value_of t env))
all_of fs t env h i = cut_down fs t env (whole (type_of t)) h i (whole_contains (type_of t) (natural (value_of t env)) (below_limit (type_of t) (value_of t env) i))

-- a number of a narrower type
fits_wider : (v w : Scalar) (z : ℤ) → limit v ≤ limit w → FitsScalar v z → FitsScalar w z
fits_wider v w (pos n) le h = omega arith
fits_wider v w (negsuc n) le h = h

either_side : (w : Scalar) (b : Bool) (x y : ℤ) → (b ≡ true → FitsScalar w x) → (b ≡ false → FitsScalar w y) → FitsScalar w (chosen b x y)
either_side w true x y h k = h refl
either_side w false x y h k = k refl

spans : (b : Bool) (x y : ℤ) (one other : Range) → (b ≡ true → Contains one (natural x)) → (b ≡ false → Contains other (natural y))
    → IsNatural one.low → IsNatural other.low → Contains (from_to (least one.low other.low) (greatest one.high other.high)) (natural (chosen b x y))
spans true x y one other h k p q = let i = h refl in record { from = least_starts_left one.low other.low (natural x) q i.from; to = greatest_left one.high other.high (natural x) i.to }
spans false x y one other h k p q = let i = k refl in record { from = least_starts_right one.low other.low (natural y) p i.from; to = greatest_right one.high other.high (natural y) i.to }

pub good : (t : Term) (env : List ℕ) (fs : List Fact) → Known t env → AllHold fs env → AllSafe fs t → Good fs t env
good (number n w) env fs k h s = record { sound = (k, tt); inside = all_of fs (number n w) env h k }
good (name i w most) env fs k h s =
    let below : slice_index env i < limit w = omega (arith, k.0, k.1) in
    record { sound = (below, tt); inside = cut_down fs (name i w most) env (from_to (pos 0) (pos most)) h below (record { from = omega arith; to = k.0 }) }
good (complement a) env fs k h s =
    let g = good a env fs k h s in
    let i : InType (complement a) env = omega (arith, limit_pos (type_of a)) in
    record { sound = (i, g.sound); inside = all_of fs (complement a) env h i }
good (negation a) env fs k h s =
    let g = good a env fs k h s in
    let i = truth_fits (flip (truth_of (value_of a env))) in
    record { sound = (i, g.sound); inside = all_of fs (negation a) env h i }
good (compute op span a b) env fs k h s =
    let g = good a env fs k.0 h s.1.0 in
    let j = good b env fs k.1 h s.1.1 in
    let x = natural (value_of a env) in
    let y = natural (value_of b env) in
    let p = as_number (type_of a) (value_of a env) (in_type a env g.sound) in
    let q = as_number (type_of b) (value_of b env) (in_type b env j.sound) in
    let xs = below_limit (type_of a) (value_of a env) (in_type a env g.sound) in
    let ys = below_limit (type_of b) (value_of b env) (in_type b env j.sound) in
    let ok = safe_admits fs op a b env x y s.0 h p q g.inside j.inside in
    let i = computed_in_type op a b env x y p q (computed_fits op (type_of a) (type_of b) x y xs ys ok) in
    let range = computed_range op (computed_type op (type_of a) (type_of b)) (range_of fs a) (range_of fs b) in
    let c = computed_contains op (type_of a) (type_of b) x y (range_of fs a) (range_of fs b) xs ys ok g.inside j.inside in
    let d : Contains range (natural (value_of (compute op span a b) env)) =
    subst (λ v. Contains range (natural (computed op (type_of a) (type_of b) (value_of a env) v))) (sym q)
    (subst (λ v. Contains range (natural (computed op (type_of a) (type_of b) v (pos y)))) (sym p) c) in
    record { sound = (i, (g.sound, j.sound)); inside = cut_down fs (compute op span a b) env range h i d }
good (compare r a b) env fs k h s =
    let g = good a env fs k.0 h s.0 in
    let j = good b env fs k.1 h s.1 in
    let i = truth_fits (related r (value_of a env) (value_of b env)) in
    record { sound = (i, (g.sound, j.sound)); inside = all_of fs (compare r a b) env h i }
good (both a b) env fs k h s =
    let g = good a env fs k.0 h s.0 in
    let i = truth_fits (chosen (truth_of (value_of a env)) (truth_of (value_of b env)) false) in
    record {
      sound = (i, (g.sound, λ e. (good b env (fs ++ facts_of true a) k.1 (all_append fs (facts_of true a) env h (facts_hold a env true g.sound e)) s.1).sound));
      inside = all_of fs (both a b) env h i;
    }
good (either a b) env fs k h s =
    let g = good a env fs k.0 h s.0 in
    let i = truth_fits (chosen (truth_of (value_of a env)) true (truth_of (value_of b env))) in
    record {
      sound = (i, (g.sound, λ e. (good b env (fs ++ facts_of false a) k.1 (all_append fs (facts_of false a) env h (facts_hold a env false g.sound e)) s.1).sound));
      inside = all_of fs (either a b) env h i;
    }
good (choice c a b) env fs k h s =
    let g = good c env fs k.0 h s.0 in
    let w = wider (type_of a) (type_of b) in
    let one = λ (e : truth_of (value_of c env) ≡ true). good a env (fs ++ facts_of true c) k.1.0 (all_append fs (facts_of true c) env h (facts_hold c env true g.sound e)) s.1.0 in
    let other = λ (e : truth_of (value_of c env) ≡ false). good b env (fs ++ facts_of false c) k.1.1 (all_append fs (facts_of false c) env h (facts_hold c env false g.sound e)) s.1.1 in
    let i = either_side w (truth_of (value_of c env)) (value_of a env) (value_of b env)
    (λ e. fits_wider (type_of a) w (value_of a env) (wider_left (type_of a) (type_of b)) (in_type a env (one e).sound))
    (λ e. fits_wider (type_of b) w (value_of b env) (wider_right (type_of a) (type_of b)) (in_type b env (other e).sound)) in
    let ra = range_of (fs ++ facts_of true c) a in
    let rb = range_of (fs ++ facts_of false c) b in
    let j = spans (truth_of (value_of c env)) (value_of a env) (value_of b env) ra rb (λ e. (one e).inside) (λ e. (other e).inside) (natural_low a (fs ++ facts_of true c)) (natural_low b (fs ++ facts_of false c)) in
    record {
      sound = (i, (g.sound, (λ e. (one e).sound, λ e. (other e).sound)));
      inside = cut_down fs (choice c a b) env (from_to (least ra.low rb.low) (greatest ra.high rb.high)) h i j;
    }
good (range_okay s o a) env fs k h t =
    let g = good s env fs k.0 h t.0 in
    let j = good o env fs k.1.0 h t.1.0 in
    let l = good a env fs k.1.1 h t.1.1 in
    let i = truth_fits (chosen (related LessEqual (value_of a env) (value_of s env)) (related LessEqual (value_of o env) (value_of s env -ℤ value_of a env)) false) in
    record { sound = (i, (g.sound, (j.sound, l.sound))); inside = all_of fs (range_okay s o a) env h i }

pub values_in_range : ValuesInRange
values_in_range t env fs k h s = (good t env fs k h s).sound
