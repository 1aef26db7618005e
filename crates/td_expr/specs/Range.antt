-- Between which whole numbers an expression lies under these facts (own rule). The ends have no bound.
use Rattle.std.specs.Prelude.{ℕ, ◌-◌, Bool, true, false, List, [], ◌∷◌, ◌++◌, ℤ, pos, ◌+ℤ◌, ◌-ℤ◌, ◌*ℤ◌, int_lt, cond, Option, Some, None}
use Rattle.td_expr.specs.Imports.{Scalar, Binary, Add, Subtract, Multiply, Divide, Remainder, BitAnd, BitOr, BitXor, ShiftLeft, ShiftRight, Relation, Equal, NotEqual, Less, LessEqual, Greater, GreaterEqual}
use Rattle.td_core.specs.Term.{Term, number, name, complement, negation, compute, compare, both, either, choice, range_okay}
use Rattle.td_core.specs.Types.{limit, computed_type, type_of}
use Rattle.td_expr.specs.Same.{constant_of, same}
use Rattle.td_expr.specs.Facts.{Fact, facts_of, mirrored}

-- both ends included
pub record Range : Type 0 where
  pub low : ℤ
  pub high : ℤ

abbrev pub from_to : ℤ → ℤ → Range
from_to l h = record { low = l; high = h }

abbrev pub least : ℤ → ℤ → ℤ
least a b = cond (int_lt b a) b a

abbrev pub greatest : ℤ → ℤ → ℤ
greatest a b = cond (int_lt b a) a b

-- what a comparison with a constant leaves; it may be nothing
abbrev pub cut : Relation → ℕ → Range → Range
cut Equal c r = from_to (greatest r.low (pos c)) (least r.high (pos c))
cut NotEqual c r = r
cut Less c r = from_to r.low (least r.high (pos c -ℤ pos 1))
cut LessEqual c r = from_to r.low (least r.high (pos c))
cut Greater c r = from_to (greatest r.low (pos c +ℤ pos 1)) r.high
cut GreaterEqual c r = from_to (greatest r.low (pos c)) r.high

-- where this side of a fact is the expression, and the other side is constant
abbrev pub cut_where : Bool → Relation → Option ℕ → Range → Range
cut_where true r (Some c) range = cut r c range
cut_where true r None range = range
cut_where false r c range = range

abbrev pub cut_by : Fact → Term → Range → Range
cut_by f t r = cut_where (same f.right t) (mirrored f.relation) (constant_of f.left) (cut_where (same f.left t) f.relation (constant_of f.right) r)

-- every fact that compares the same expression with a constant cuts, from either side
abbrev pub cut_by_all : List Fact → Term → Range → Range
cut_by_all [] t r = r
cut_by_all (f ∷ fs) t r = cut_by_all fs t (cut_by f t r)

-- a constant has its value
abbrev pub constant_or : Option ℕ → Range → Range
constant_or (Some n) r = from_to (pos n) (pos n)
constant_or None r = r

abbrev pub narrowed : List Fact → Term → Range → Range
narrowed facts t r = cut_by_all facts t (constant_or (constant_of t) r)

-- all that a type has
abbrev pub whole : Scalar → Range
whole w = from_to (pos 0) (pos (limit w - 1))

-- of operands in these ranges
abbrev pub computed_range : Binary → Scalar → Range → Range → Range
computed_range Add w a b = from_to ((a.low +ℤ b.low)) ((a.high +ℤ b.high))
computed_range Subtract w a b = from_to (greatest (pos 0) ((a.low -ℤ b.high))) ((a.high -ℤ b.low))
computed_range Multiply w a b = from_to ((a.low *ℤ b.low)) ((a.high *ℤ b.high))
computed_range Divide w a b = from_to (pos 0) a.high
computed_range Remainder w a b = from_to (pos 0) (least a.high ((b.high -ℤ pos 1)))
computed_range BitAnd w a b = from_to (pos 0) (least a.high b.high)
computed_range BitOr w a b = whole w
computed_range BitXor w a b = whole w
computed_range ShiftLeft w a b = whole w
computed_range ShiftRight w a b = from_to (pos 0) a.high

-- `?:` spans both branches, each taken with the facts at it
abbrev pub range_of : List Fact → Term → Range
range_of facts (number n w) = narrowed facts (number n w) (whole w)
range_of facts (name i w most) = narrowed facts (name i w most) (from_to (pos 0) (pos most))
range_of facts (complement a) = narrowed facts (complement a) (whole (type_of a))
range_of facts (negation a) = narrowed facts (negation a) (whole (type_of (negation a)))
range_of facts (compute op span a b) =
    narrowed facts (compute op span a b) (computed_range op (computed_type op (type_of a) (type_of b)) (range_of facts a) (range_of facts b))
range_of facts (compare r a b) = narrowed facts (compare r a b) (whole (type_of (compare r a b)))
range_of facts (both a b) = narrowed facts (both a b) (whole (type_of (both a b)))
range_of facts (either a b) = narrowed facts (either a b) (whole (type_of (either a b)))
range_of facts (choice c a b) =
    let one = range_of (facts ++ facts_of true c) a in
    let other = range_of (facts ++ facts_of false c) b in
    narrowed facts (choice c a b) (from_to (least one.low other.low) (greatest one.high other.high))
range_of facts (range_okay s o a) = narrowed facts (range_okay s o a) (whole (type_of (range_okay s o a)))
