use Rattle.std.proofs.Common.{◌≡◌, sum, map, take}
use Rattle.td_limits.specs.Excesses.{capped}
use Rattle.td_ast.specs.Trees.{tree_size}
use Rattle.td_limits.proofs.nodes.exprs_nodes.Given as goal

abbrev pub invariant-loop-e : goal.invariant-loop-e
invariant-loop-e l = l.total ≡ capped (sum (map tree_size (take l.e-index l.es)))
