use Rattle.std.proofs.Common.{◌≡◌, ◌-◌, false, pos}
use Rattle.std.specs.Prelude.{int_lt}
use Rattle.td_arith_ranges.proofs.within.found.Given as goal

abbrev pub invariant-loop-low : goal.invariant-loop-low
invariant-loop-low l = (int_lt l.n (pos l.low) ≡ false) × (int_lt (pos l.high) l.n ≡ false)

abbrev pub decreases-loop-low : goal.decreases-loop-low
decreases-loop-low l = l.high - l.low
