-- Ranges as the code holds them.
use Rattle.std.specs.Prelude.{ℕ, ℤ, pos, negsuc, nat_le, cond, Option, Some, None}
use Rattle.td_expr.specs.Range.{Range, from_to, least, greatest}
use Rattle.td_arith_ranges.specs.declared.ends.Ends.{Ends}

abbrev pub range_in : Ends → Range
range_in e = from_to e.low e.high

-- both ranges, and what lies between them
abbrev pub spanned : Range → Range → Range
spanned one other = from_to (least one.low other.low) (greatest one.high other.high)

-- a whole number, where it is from 0 to a bound
abbrev pub within : ℕ → ℤ → Option ℕ
within most (pos n) = cond (nat_le n most) (Some n) None
within most (negsuc n) = None
