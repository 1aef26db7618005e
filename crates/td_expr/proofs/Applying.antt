-- Operators on numbers of the machine. Cited by other crates.
use Rattle.std.proofs.Common.{◌≡◌, ℕ, ◌<◌, ◌≤◌, ◌+◌, ◌-◌, ◌*◌, ◌/◌, ◌%◌, ◌^◌, sym, ap, ◌∙◌, subst, arith, lit≤, mul_assoc, List, pos}
use Rattle.std.proofs.Math.Nat.{mul-mod_left, div-eq_of_lt, mod-eq_of_lt, pow-le-pow_right}
use Rattle.std.proofs.lemmas.Nat.{pow-add}
use Rattle.td_expr.specs.Imports.{Scalar, Truth, Eight, Sixteen, ThirtyTwo, SixtyFour, ShiftRight}
use Rattle.td_core.specs.Types.{bits, limit, type_of}
use Rattle.td_core.specs.Term.{Term}
use Rattle.td_expr.specs.Value.{computed, value_of, complemented, natural}
use Rattle.td_expr.specs.Sound.{Sound}
use Rattle.td_expr.proofs.Widths.{limit_small}
use Rattle.td_expr.proofs.Holding.{in_type, below_limit}

bits_small : (w : Scalar) → bits w ≤ 64
bits_small Truth = lit≤ tt
bits_small Eight = lit≤ tt
bits_small Sixteen = lit≤ tt
bits_small ThirtyTwo = lit≤ tt
bits_small SixtyFour = lit≤ tt

pub shifted_out : (v : Scalar) (x y : ℕ) → 64 ≤ y → 0 ≡ x * 2 ^ y % limit v
shifted_out v x y h =
    let i = y - bits v in
    let e : y ≡ i + bits v = omega (arith, bits_small v) in
    let p : x * 2 ^ y ≡ x * 2 ^ i * limit v = ap (λ k. x * 2 ^ k) e ∙ ap (λ k. x * k) (pow-add 2 i (bits v)) ∙ sym (mul_assoc x (2 ^ i) (limit v)) in
    sym (ap (λ k. k % limit v) p ∙ mul-mod_left (x * 2 ^ i) (limit v))

pub shifted_away : (v w : Scalar) (x y : ℕ) → x < limit v → y < limit w → 64 ≤ y → pos 0 ≡ computed ShiftRight v w (pos x) (pos y)
shifted_away v w x y p q h =
    let big : 2 ^ 64 ≤ 2 ^ y = pow-le-pow_right (omega arith) h in
    let lt : x < 2 ^ y = omega (arith, big, limit_small v) in
    sym (ap (λ k. pos (k / 2 ^ (y % limit w))) (mod-eq_of_lt p) ∙ ap (λ k. pos (x / 2 ^ k)) (mod-eq_of_lt q) ∙ ap pos (div-eq_of_lt lt))

-- the value of a sound part, below its type's limit
pub part_below : (t : Term) (env : List ℕ) (n : ℕ) → Sound t env → pos n ≡ value_of t env → n < limit (type_of t)
part_below t env n s e =
    let h = below_limit (type_of t) (value_of t env) (in_type t env s) in
    let d : n ≡ natural (value_of t env) = ap natural e in omega (arith, h, d)

pub complement_is : (w : Scalar) (n : ℕ) → n < limit w → pos (limit w - 1 - n) ≡ complemented w (pos n)
complement_is w n h = ap (λ k. pos (limit w - 1 - k)) (sym (mod-eq_of_lt h))

-- a part that was reached twice: for its type and for its value
pub child_below : (a d e : Term) (env : List ℕ) (n : ℕ) (w : Scalar) → Sound a env → d ≡ a → e ≡ a → w ≡ type_of d → pos n ≡ value_of e env → n < limit w
child_below a d e env n w s p q t v =
    let below = part_below a env n s (v ∙ ap (λ x. value_of x env) q) in
    subst (λ k. n < limit k) (sym (t ∙ ap (λ x. type_of x) p)) below

pub complement_value : (a d e : Term) (env : List ℕ) (n : ℕ) (w : Scalar) → Sound a env → d ≡ a → e ≡ a → w ≡ type_of d → pos n ≡ value_of e env
    → pos (limit w - 1 - n) ≡ complemented (type_of a) (value_of a env)
complement_value a d e env n w s p q t v =
    complement_is w n (child_below a d e env n w s p q t v)
    ∙ ap (λ k. complemented k (pos n)) (t ∙ ap (λ x. type_of x) p)
    ∙ ap (complemented (type_of a)) (v ∙ ap (λ x. value_of x env) q)

pub gone : (v : Scalar) (x y : ℕ) → x < limit v → 64 ≤ y → 0 ≡ x / 2 ^ y
gone v x y p h =
    let big : 2 ^ 64 ≤ 2 ^ y = pow-le-pow_right (omega arith) h in
    let lt : x < 2 ^ y = omega (arith, big, limit_small v) in
    sym (div-eq_of_lt lt)
