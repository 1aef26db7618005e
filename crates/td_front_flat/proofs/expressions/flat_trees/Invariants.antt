use Rattle.std.proofs.Common.{◌≡◌, ◌++◌, drop, map}
use Rattle.td_front_flat.specs.Expressions.{flat_tree}
use Rattle.td_front_flat.proofs.expressions.flat_trees.Given as goal

abbrev pub invariant-loop-e : goal.invariant-loop-e
invariant-loop-e l = l.flat ++ map (flat_tree l.own l.scope) (drop l.e-index l.es) ≡ map (flat_tree l.own l.scope) l.es
