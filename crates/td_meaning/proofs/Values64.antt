-- A sound expression has the value that arithmetic in 64 bits gives. Cited by other crates.
use Rattle.std.proofs.Common.{◌≡◌, ℕ, zero, suc, ◌+◌, ◌-◌, ◌*◌, ◌/◌, ◌%◌, ◌^◌, ◌<◌, min, Bool, true, false, List, refl, sym, ap, ◌∙◌, subst, arith, nat_lt, bit_and, bit_or, bit_xor, ℤ, pos}
use Rattle.std.specs.Prelude.{◌-ℤ◌}
use Rattle.std.proofs.lemmas.Bool.{ltb-true, ltb-false}
use Rattle.std.proofs.Math.Nat.{mod-eq_of_lt}
use Rattle.td_meaning.specs.Imports.{Scalar, LessEqual, Binary, Add, Subtract, Multiply, Divide, Remainder, BitAnd, BitOr, BitXor, ShiftLeft, ShiftRight}
use Rattle.td_core.specs.Term.{Term, number, name, complement, negation, compute, compare, both, either, choice, range_okay}
use Rattle.td_core.specs.Types.{limit, wider, type_of, computed_type}
use Rattle.td_expr.specs.Value.{value_of as whole_value, truth_of, number_of, flip, chosen, computed, related, natural, complemented}
use Rattle.td_expr.specs.Sound.{FitsScalar, Sound}
use Rattle.td_expr.proofs.Widths.{limit_small, wider_left, wider_right}
use Rattle.td_expr.proofs.Holding.{at_most_numbers}
use Rattle.td_expr.proofs.Reaching.{minus_is}
use Rattle.td_meaning.specs.Doing.{natural_of, is_true}
use Rattle.td_meaning.specs.Words64.{truth_number, is_truth, applied, value_of}
use Rattle.td_num.proofs.Equals.{minus_under}
use Rattle.td_expr.proofs.Applying.{part_below}

applied_is : (op : Binary) (v w : Scalar) (x y : ℕ) → x < limit v → y < limit w → FitsScalar (computed_type op v w) (computed op v w (pos x) (pos y)) → pos (applied op v x y) ≡ computed op v w (pos x) (pos y)
applied_is Add v w x y h k f = let e : min (x + y) (2 ^ 64 - 1) ≡ x + y = omega (arith, f, limit_small (wider v w)) in ap pos e
applied_is Subtract v w x y h k f = by (nat_lt x y) refl
  where
    by : (c : Bool) → nat_lt x y ≡ c → pos (x - y) ≡ pos x -ℤ pos y
    by true e = absurd (subst (FitsScalar (wider v w)) (minus_under x y (ltb-true x y e)) f)
    by false e = sym (minus_is x y (ltb-false x y e))
applied_is Multiply v w x y h k f = let e : min (x * y) (2 ^ 64 - 1) ≡ x * y = omega (arith, f, limit_small (wider v w)) in ap pos e
applied_is Divide v w x zero h k f = refl
applied_is Divide v w x (suc y) h k f = refl
applied_is Remainder v w x zero h k f = refl
applied_is Remainder v w x (suc y) h k f = refl
applied_is BitAnd v w x y h k f =
    ap (λ z. pos (bit_and z y)) (sym (mod-eq_of_lt (omega (arith, h, wider_left v w))))
    ∙ ap (λ z. pos (bit_and (x % limit (wider v w)) z)) (sym (mod-eq_of_lt (omega (arith, k, wider_right v w))))
applied_is BitOr v w x y h k f =
    ap (λ z. pos (bit_or z y)) (sym (mod-eq_of_lt (omega (arith, h, wider_left v w))))
    ∙ ap (λ z. pos (bit_or (x % limit (wider v w)) z)) (sym (mod-eq_of_lt (omega (arith, k, wider_right v w))))
applied_is BitXor v w x y h k f =
    ap (λ z. pos (bit_xor z y)) (sym (mod-eq_of_lt (omega (arith, h, wider_left v w))))
    ∙ ap (λ z. pos (bit_xor (x % limit (wider v w)) z)) (sym (mod-eq_of_lt (omega (arith, k, wider_right v w))))
applied_is ShiftLeft v w x y h k f =
    ap (λ z. pos (z * 2 ^ y % limit v)) (sym (mod-eq_of_lt h)) ∙ ap (λ z. pos (x % limit v * 2 ^ z % limit v)) (sym (mod-eq_of_lt k))
applied_is ShiftRight v w x y h k f =
    ap (λ z. pos (z / 2 ^ y)) (sym (mod-eq_of_lt h)) ∙ ap (λ z. pos (x % limit v / 2 ^ z)) (sym (mod-eq_of_lt k))

number_is : (b : Bool) → pos (truth_number b) ≡ number_of b
number_is true = refl
number_is false = refl

left_same : (c x y : Bool) → (c ≡ true → x ≡ y) → chosen c x false ≡ chosen c y false
left_same true x y h = h refl
left_same false x y h = refl

right_same : (c x y : Bool) → (c ≡ false → x ≡ y) → chosen c true x ≡ chosen c true y
right_same true x y h = refl
right_same false x y h = h refl

choice_same : (c : Bool) (x y : ℕ) (v w : ℤ) → (c ≡ true → pos x ≡ v) → (c ≡ false → pos y ≡ w) → pos (chosen c x y) ≡ chosen c v w
choice_same true x y v w h k = h refl
choice_same false x y v w h k = k refl

pub value_is : (e : Term) (env : List ℕ) → Sound e env → pos (value_of e env) ≡ whole_value e env
unfolding value_of
value_is (number n w) env s = refl
value_is (name i w most) env s = refl
value_is (complement a) env s =
    let is = value_is a env s.1 in
    let t = type_of a in
    ap (λ k. pos (limit t - 1 - k)) (sym (mod-eq_of_lt (part_below a env (value_of a env) s.1 is))) ∙ ap (complemented t) is
value_is (negation a) env s = number_is (flip (is_truth (value_of a env))) ∙ ap (λ v. number_of (flip (truth_of v))) (value_is a env s.1)
value_is (compute op span a b) env s =
    let x = value_of a env in
    let y = value_of b env in
    let p = value_is a env s.1.0 in
    let q = value_is b env s.1.1 in
    let both : computed op (type_of a) (type_of b) (pos x) (pos y) ≡ computed op (type_of a) (type_of b) (whole_value a env) (whole_value b env) = λ i. computed op (type_of a) (type_of b) (p i) (q i) in
    applied_is op (type_of a) (type_of b) x y (part_below a env x s.1.0 p) (part_below b env y s.1.1 q) (subst (FitsScalar (computed_type op (type_of a) (type_of b))) (sym both) s.0) ∙ both
value_is (compare r a b) env s =
    let p = value_is a env s.1.0 in
    let q = value_is b env s.1.1 in
    number_is (related r (pos (value_of a env)) (pos (value_of b env))) ∙ (λ i. number_of (related r (p i) (q i)))
value_is (both a b) env s =
    let p = value_is a env s.1.0 in
    let c = truth_of (whole_value a env) in
    number_is (chosen (is_truth (value_of a env)) (is_truth (value_of b env)) false)
    ∙ (λ i. number_of (chosen (truth_of (p i)) (is_truth (value_of b env)) false))
    ∙ ap number_of (left_same c (is_truth (value_of b env)) (truth_of (whole_value b env)) (λ t. ap truth_of (value_is b env (s.1.1 t))))
value_is (either a b) env s =
    let p = value_is a env s.1.0 in
    let c = truth_of (whole_value a env) in
    number_is (chosen (is_truth (value_of a env)) true (is_truth (value_of b env)))
    ∙ (λ i. number_of (chosen (truth_of (p i)) true (is_truth (value_of b env))))
    ∙ ap number_of (right_same c (is_truth (value_of b env)) (truth_of (whole_value b env)) (λ t. ap truth_of (value_is b env (s.1.1 t))))
value_is (choice c a b) env s =
    let p = value_is c env s.1.0 in
    let t = truth_of (whole_value c env) in
    (λ i. pos (chosen (truth_of (p i)) (value_of a env) (value_of b env)))
    ∙ choice_same t (value_of a env) (value_of b env) (whole_value a env) (whole_value b env) (λ h. value_is a env (s.1.1.0 h)) (λ h. value_is b env (s.1.1.1 h))
value_is (range_okay s o a) env h =
    let p = value_is s env h.1.0 in
    let q = value_is o env h.1.1.0 in
    let r = value_is a env h.1.1.1 in
    let x = value_of s env in
    let y = value_of o env in
    let z = value_of a env in
    let c = related LessEqual (pos z) (pos x) in
    number_is (chosen c (related LessEqual (pos y) (pos (x - z))) false)
    ∙ ap number_of (left_same c (related LessEqual (pos y) (pos (x - z))) (related LessEqual (pos y) (pos x -ℤ pos z)) (λ t. ap (related LessEqual (pos y)) (sym (minus_is x z (at_most_numbers z x t)))))
    ∙ (λ i. number_of (chosen (related LessEqual (r i) (p i)) (related LessEqual (q i) (p i -ℤ r i)) false))

pub natural_is : (e : Term) (env : List ℕ) → Sound e env → value_of e env ≡ natural_of e env
natural_is e env s = ap natural (value_is e env s)

pub truth_is : (e : Term) (env : List ℕ) → Sound e env → is_truth (value_of e env) ≡ is_true e env
truth_is e env s = ap truth_of (value_is e env s)
