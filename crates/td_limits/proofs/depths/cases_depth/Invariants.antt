use Rattle.std.proofs.Common.{◌≡◌, map, take}
use Rattle.td_limits.specs.Excesses.{greatest}
use Rattle.td_limits.specs.Depths.{case_depth}
use Rattle.td_limits.proofs.depths.cases_depth.Given as goal

abbrev pub invariant-loop-case : goal.invariant-loop-case
invariant-loop-case l = l.depth ≡ greatest (map (case_depth l.known) (take l.case-index l.cases))
