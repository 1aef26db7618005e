use Rattle.std.proofs.Common.{◌≡◌, ◌++◌, drop, flat_map}
use Rattle.td_front_flat.specs.Uses.{tree_uses}
use Rattle.td_front_flat.proofs.uses.add_trees.Given as goal

abbrev pub invariant-loop-e : goal.invariant-loop-e
invariant-loop-e l = l.uses ++ flat_map tree_uses (drop l.e-index l.es) ≡ l.fn.uses ++ flat_map tree_uses l.es
