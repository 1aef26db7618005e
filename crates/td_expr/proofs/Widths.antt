-- The limits of types. Cited by other crates.
use Rattle.std.proofs.Common.{◌≡◌, ◌<◌, ◌≤◌, ◌*◌, ◌^◌, Bool, true, false, cond, refl, arith, lit≤}
use Rattle.std.specs.Prelude.{nat_le}
use Rattle.std.proofs.Math.Nat.{pow-le-pow_right}
use Rattle.std.proofs.lemmas.Bool.{leb-true, leb-false}
use Rattle.std.proofs.lemmas.Nat.{pow_pos}
use Rattle.td_num.specs.declared.number.Width.{Width}
use Rattle.td_num.specs.declared.number.Width.TheVariants.{One, Two, Four, Eight as EightBytes}
use Rattle.td_num.specs.Numbers.{bytes_in}
use Rattle.td_expr.specs.Imports.{Scalar, Truth, Eight, Sixteen, ThirtyTwo, SixtyFour}
use Rattle.td_core.specs.Types.{bits, limit, wider}
use Rattle.td_core.specs.Formed.{scalar_of}

pub limit_pos : (w : Scalar) → 0 < limit w
limit_pos w = pow_pos (bits w)

limit_monotone : (v w : Scalar) → bits v ≤ bits w → limit v ≤ limit w
limit_monotone v w h = pow-le-pow_right (omega arith) h

pub wide_enough : (v w : Scalar) → nat_le (bits v) (bits w) ≡ true → limit v ≤ limit w
wide_enough v w h = limit_monotone v w (leb-true (bits v) (bits w) h)

picked_left : (v w : Scalar) (b : Bool) → nat_le (bits v) (bits w) ≡ b → limit v ≤ limit (cond b w v)
picked_left v w true h = wide_enough v w h
picked_left v w false h = omega arith

picked_right : (v w : Scalar) (b : Bool) → nat_le (bits v) (bits w) ≡ b → limit w ≤ limit (cond b w v)
picked_right v w true h = omega arith
picked_right v w false h = let e : bits w < bits v = leb-false (bits v) (bits w) h in limit_monotone w v (omega (arith, e))

pub wider_left : (v w : Scalar) → limit v ≤ limit (wider v w)
wider_left v w = picked_left v w (nat_le (bits v) (bits w)) refl

pub wider_right : (v w : Scalar) → limit w ≤ limit (wider v w)
wider_right v w = picked_right v w (nat_le (bits v) (bits w)) refl

pub limit_small : (w : Scalar) → limit w ≤ 2 ^ 64
limit_small Truth = lit≤ tt
limit_small Eight = lit≤ tt
limit_small Sixteen = lit≤ tt
limit_small ThirtyTwo = lit≤ tt
limit_small SixtyFour = lit≤ tt

-- a number of so many bytes
pub limit_of_bytes : (w : Width) → limit (scalar_of w) ≡ 2 ^ (8 * bytes_in w)
limit_of_bytes One = refl
limit_of_bytes Two = refl
limit_of_bytes Four = refl
limit_of_bytes EightBytes = refl
