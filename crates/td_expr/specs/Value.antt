-- The value of an expression, a whole number without bound (3D manual, "Expressions"; `/`, `%`, shifts and bitwise operators
-- by an own rule).
use Rattle.std.specs.Prelude.{ℕ, zero, suc, ◌-◌, ◌*◌, ◌/◌, ◌%◌, ◌^◌, Bool, true, false, nat_eq, ℤ, pos, negsuc, ◌+ℤ◌, ◌-ℤ◌, ◌*ℤ◌, int_lt, bit_and, bit_or, bit_xor, List, slice_index}
use Rattle.td_expr.specs.Imports.{Scalar, Binary, Add, Subtract, Multiply, Divide, Remainder, BitAnd, BitOr, BitXor, ShiftLeft, ShiftRight, Relation, Equal, NotEqual, Less, LessEqual, Greater, GreaterEqual}
use Rattle.td_core.specs.Term.{Term, number, name, complement, negation, compute, compare, both, either, choice, range_okay}
use Rattle.td_core.specs.Types.{limit, wider, type_of}

-- 0 stands for false, and each other number for true
abbrev pub truth_of : ℤ → Bool
truth_of (pos zero) = false
truth_of (pos (suc n)) = true
truth_of (negsuc n) = true

abbrev pub number_of : Bool → ℤ
number_of true = pos 1
number_of false = pos 0

abbrev pub flip : Bool → Bool
flip true = false
flip false = true

-- the first where the test holds, else the second
abbrev pub chosen : {A : Type 0} → Bool → A → A → A
chosen true a b = a
chosen false a b = b

-- what is left of a whole number by a modulus
abbrev pub reduced : ℕ → ℤ → ℕ
reduced m (pos n) = n % m
reduced m (negsuc n) = m - 1 - n % m

-- rounded down, and 0 for a divisor of 0 or less
abbrev pub quotient : ℤ → ℤ → ℤ
quotient a (negsuc b) = pos 0
quotient a (pos zero) = pos 0
quotient (pos a) (pos (suc b)) = pos (a / suc b)
quotient (negsuc a) (pos (suc b)) = negsuc (a / suc b)

abbrev pub remainder : ℤ → ℤ → ℤ
remainder a (negsuc b) = pos 0
remainder a (pos zero) = pos 0
remainder a (pos (suc b)) = pos (reduced (suc b) a)

abbrev pub int_eq : ℤ → ℤ → Bool
int_eq (pos a) (pos b) = nat_eq a b
int_eq (pos a) (negsuc b) = false
int_eq (negsuc a) (pos b) = false
int_eq (negsuc a) (negsuc b) = nat_eq a b

-- what an operator makes of operands of these two types. Sums, differences and products are those of whole numbers.
-- Bitwise operators and shifts first take each operand modulo 2 ^ (the bits of a type): a shift takes each modulo its own
-- type's, and `<<` drops the bits past its left side's.
abbrev pub computed : Binary → Scalar → Scalar → ℤ → ℤ → ℤ
computed Add v w a b = a +ℤ b
computed Subtract v w a b = a -ℤ b
computed Multiply v w a b = a *ℤ b
computed Divide v w a b = quotient a b
computed Remainder v w a b = remainder a b
computed BitAnd v w a b = pos (bit_and (reduced (limit (wider v w)) a) (reduced (limit (wider v w)) b))
computed BitOr v w a b = pos (bit_or (reduced (limit (wider v w)) a) (reduced (limit (wider v w)) b))
computed BitXor v w a b = pos (bit_xor (reduced (limit (wider v w)) a) (reduced (limit (wider v w)) b))
computed ShiftLeft v w a b = pos ((reduced (limit v) a * 2 ^ reduced (limit w) b) % limit v)
computed ShiftRight v w a b = pos (reduced (limit v) a / 2 ^ reduced (limit w) b)

-- whether two numbers compare so
abbrev pub related : Relation → ℤ → ℤ → Bool
related Equal a b = int_eq a b
related NotEqual a b = flip (int_eq a b)
related Less a b = int_lt a b
related LessEqual a b = flip (int_lt b a)
related Greater a b = int_lt b a
related GreaterEqual a b = flip (int_lt a b)

-- `~x` is 2 ^ bits - 1 - x
abbrev pub complemented : Scalar → ℤ → ℤ
complemented w a = pos (limit w - 1 - reduced (limit w) a)

abbrev pub negated : ℤ → ℤ
negated a = number_of (flip (truth_of a))

abbrev pub compared : Relation → ℤ → ℤ → ℤ
compared r a b = number_of (related r a b)

-- the right side counts only where the left one is true
abbrev pub both_of : ℤ → ℤ → ℤ
both_of a b = number_of (chosen (truth_of a) (truth_of b) false)

-- the right side counts only where the left one is false
abbrev pub either_of : ℤ → ℤ → ℤ
either_of a b = number_of (chosen (truth_of a) true (truth_of b))

abbrev pub choice_of : ℤ → ℤ → ℤ → ℤ
choice_of c a b = chosen (truth_of c) a b

-- access <= size and offset <= size - access
abbrev pub range_okay_of : ℤ → ℤ → ℤ → ℤ
range_okay_of s o a = number_of (chosen (related LessEqual a s) (related LessEqual o (s -ℤ a)) false)

-- for the values in scope; one past them is 0
abbrev pub value_of : Term → List ℕ → ℤ
value_of (number n w) env = pos n
value_of (name i w most) env = pos (slice_index env i)
value_of (complement a) env = complemented (type_of a) (value_of a env)
value_of (negation a) env = negated (value_of a env)
value_of (compute op span a b) env = computed op (type_of a) (type_of b) (value_of a env) (value_of b env)
value_of (compare r a b) env = compared r (value_of a env) (value_of b env)
value_of (both a b) env = both_of (value_of a env) (value_of b env)
value_of (either a b) env = either_of (value_of a env) (value_of b env)
value_of (choice c a b) env = choice_of (value_of c env) (value_of a env) (value_of b env)
value_of (range_okay s o a) env = range_okay_of (value_of s env) (value_of o env) (value_of a env)

-- a value where a number without sign stands; a negative one, which no admitted module has there, is 0
abbrev pub natural : ℤ → ℕ
natural (pos n) = n
natural (negsuc n) = 0
