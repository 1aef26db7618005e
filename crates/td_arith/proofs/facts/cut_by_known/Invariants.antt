use Rattle.std.proofs.Common.{◌≡◌, drop}
use Rattle.td_expr.specs.Range.{cut_by_all}
use Rattle.td_arith_ranges.specs.Ends.{range_in}
use Rattle.td_arith.specs.Known.{facts_in}
use Rattle.td_arith.proofs.facts.cut_by_known.Given as goal

-- what is left of the facts cuts the range to the same
abbrev pub invariant-loop-k : goal.invariant-loop-k
invariant-loop-k l = cut_by_all (facts_in (drop l.k-index l.known)) l.e (range_in l.left) ≡ cut_by_all (facts_in l.known) l.e (range_in l.fn.ends)
