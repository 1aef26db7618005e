use Rattle.std.proofs.Common.{◌≡◌, map, take}
use Rattle.td_limits.specs.Excesses.{greatest}
use Rattle.td_limits.specs.Depths.{tree_depth}
use Rattle.td_limits.proofs.depths.trees_depth.Given as goal

abbrev pub invariant-loop-e : goal.invariant-loop-e
invariant-loop-e l = l.depth ≡ greatest (map (tree_depth l.known) (take l.e-index l.es))
