-- Constant parts, and when two expressions are the same (own rule).
use Rattle.std.specs.Prelude.{ℕ, Bool, true, false, ◌&&◌, nat_eq, nat_lt, cond, ℤ, pos, negsuc, Option, Some, None}
use Rattle.td_expr.specs.Imports.{Scalar, Truth, Binary, Add, Subtract, Multiply, Divide, Remainder, BitAnd, BitOr, BitXor, ShiftLeft, ShiftRight, Relation, Equal, NotEqual, Less, LessEqual, Greater, GreaterEqual}
use Rattle.td_core.specs.Term.{Term, number, name, complement, negation, compute, compare, both, either, choice, range_okay}
use Rattle.td_core.specs.Types.{bits, limit, wider, computed_type, type_of}
use Rattle.td_expr.specs.Value.{complemented, negated, computed, compared, both_of, either_of, choice_of, range_okay_of}

-- a value that fits its type
abbrev pub fitting : Scalar → ℤ → Option ℕ
fitting w (pos n) = cond (nat_lt n (limit w)) (Some n) None
fitting w (negsuc n) = None

-- what a function makes of constants, where it fits its type
abbrev pub of_one : Scalar → (ℤ → ℤ) → Option ℕ → Option ℕ
of_one w f (Some x) = fitting w (f (pos x))
of_one w f None = None

abbrev pub of_two : Scalar → (ℤ → ℤ → ℤ) → Option ℕ → Option ℕ → Option ℕ
of_two w f (Some x) (Some y) = fitting w (f (pos x) (pos y))
of_two w f (Some x) None = None
of_two w f None y = None

abbrev pub of_three : Scalar → (ℤ → ℤ → ℤ → ℤ) → Option ℕ → Option ℕ → Option ℕ → Option ℕ
of_three w f (Some x) y z = of_two w (f (pos x)) y z
of_three w f None y z = None

-- the value of a constant part: of literals alone, where every value in it fits its type
abbrev pub constant_of : Term → Option ℕ
constant_of (number n w) = Some n
constant_of (name i w most) = None
constant_of (complement a) = of_one (type_of a) (complemented (type_of a)) (constant_of a)
constant_of (negation a) = of_one Truth negated (constant_of a)
constant_of (compute op span a b) = of_two (computed_type op (type_of a) (type_of b)) (computed op (type_of a) (type_of b)) (constant_of a) (constant_of b)
constant_of (compare r a b) = of_two Truth (compared r) (constant_of a) (constant_of b)
constant_of (both a b) = of_two Truth both_of (constant_of a) (constant_of b)
constant_of (either a b) = of_two Truth either_of (constant_of a) (constant_of b)
constant_of (choice c a b) = of_three (wider (type_of a) (type_of b)) choice_of (constant_of c) (constant_of a) (constant_of b)
constant_of (range_okay s o a) = of_three Truth range_okay_of (constant_of s) (constant_of o) (constant_of a)

abbrev pub type_eq : Scalar → Scalar → Bool
type_eq v w = nat_eq (bits v) (bits w)

abbrev pub binary_eq : Binary → Binary → Bool
binary_eq Add Add = true
binary_eq Subtract Subtract = true
binary_eq Multiply Multiply = true
binary_eq Divide Divide = true
binary_eq Remainder Remainder = true
binary_eq BitAnd BitAnd = true
binary_eq BitOr BitOr = true
binary_eq BitXor BitXor = true
binary_eq ShiftLeft ShiftLeft = true
binary_eq ShiftRight ShiftRight = true
binary_eq _ _ = false

abbrev pub relation_eq : Relation → Relation → Bool
relation_eq Equal Equal = true
relation_eq NotEqual NotEqual = true
relation_eq Less Less = true
relation_eq LessEqual LessEqual = true
relation_eq Greater Greater = true
relation_eq GreaterEqual GreaterEqual = true
relation_eq _ _ = false

-- constant parts have one value and one type, and others are the same where their parts are
abbrev pub settled : Option ℕ → Option ℕ → Bool → Bool → Bool
settled (Some m) (Some n) types parts = nat_eq m n && types
settled (Some m) None types parts = false
settled None (Some n) types parts = false
settled None None types parts = parts

abbrev pub alike : Term → Term → Bool → Bool
alike a b parts = settled (constant_of a) (constant_of b) (type_eq (type_of a) (type_of b)) parts

-- the same tree, after each constant part was replaced by its value, with the same type of each part
abbrev pub same : Term → Term → Bool
same (name i v most) (name j w other) = nat_eq i j && (type_eq v w && nat_eq most other)
same (complement a) (complement c) = alike (complement a) (complement c) (same a c)
same (negation a) (negation c) = alike (negation a) (negation c) (same a c)
same (compute op span a b) (compute og other c d) = alike (compute op span a b) (compute og other c d) (binary_eq op og && (same a c && same b d))
same (compare r a b) (compare q c d) = alike (compare r a b) (compare q c d) (relation_eq r q && (same a c && same b d))
same (both a b) (both c d) = alike (both a b) (both c d) (same a c && same b d)
same (either a b) (either c d) = alike (either a b) (either c d) (same a c && same b d)
same (choice t a b) (choice u c d) = alike (choice t a b) (choice u c d) (same t u && (same a c && same b d))
same (range_okay s o a) (range_okay t u c) = alike (range_okay s o a) (range_okay t u c) (same s t && (same o u && same a c))
same a b = alike a b false
