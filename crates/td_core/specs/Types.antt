-- The types of expressions, and `UINT8` (own rule).
use Rattle.std.specs.Prelude.{ℕ, ◌^◌, Bool, true, false, cond, nat_le}
use Rattle.td_num.specs.declared.number.Width.{Width}
use Rattle.td_num.specs.declared.number.Width.TheVariants.{One}
use Rattle.td_num.specs.declared.number.ByteOrder.{ByteOrder}
use Rattle.td_num.specs.declared.number.ByteOrder.TheVariants.{LittleEndian}
use Rattle.td_core.specs.Term.{Term, number, name, complement, negation, compute, compare, both, either, choice, range_okay}
use Rattle.td_core.specs.declared.expressions.Scalar.{Scalar}
use Rattle.td_core.specs.declared.expressions.Scalar.TheVariants.{Truth, Eight, Sixteen, ThirtyTwo, SixtyFour}
use Rattle.td_core.specs.declared.expressions.Binary.{Binary}
use Rattle.td_core.specs.declared.expressions.Binary.TheVariants.{Add, Subtract, Multiply, Divide, Remainder, BitAnd, BitOr, BitXor, ShiftLeft, ShiftRight}

-- a truth value is a number of one bit
abbrev pub bits : Scalar → ℕ
bits Truth = 1
bits Eight = 8
bits Sixteen = 16
bits ThirtyTwo = 32
bits SixtyFour = 64

-- one more than the greatest value
abbrev pub limit : Scalar → ℕ
limit w = 2 ^ bits w

abbrev pub wider : Scalar → Scalar → Scalar
wider v w = cond (nat_le (bits v) (bits w)) w v

-- a shift has its left side's type
abbrev pub computed_type : Binary → Scalar → Scalar → Scalar
computed_type Add v w = wider v w
computed_type Subtract v w = wider v w
computed_type Multiply v w = wider v w
computed_type Divide v w = wider v w
computed_type Remainder v w = wider v w
computed_type BitAnd v w = wider v w
computed_type BitOr v w = wider v w
computed_type BitXor v w = wider v w
computed_type ShiftLeft v w = v
computed_type ShiftRight v w = v

abbrev pub type_of : Term → Scalar
type_of (number n w) = w
type_of (name i w most) = w
type_of (complement a) = type_of a
type_of (negation a) = Truth
type_of (compute op span a b) = computed_type op (type_of a) (type_of b)
type_of (compare r a b) = Truth
type_of (both a b) = Truth
type_of (either a b) = Truth
type_of (choice c a b) = wider (type_of a) (type_of b)
type_of (range_okay s o a) = Truth

-- `UINT8`
abbrev pub is_octet : Width → ByteOrder → Bool
is_octet One LittleEndian = true
is_octet width order = false
