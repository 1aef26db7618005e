use Rattle.std.proofs.Common.{◌≡◌, ◌++◌, drop, map}
use Rattle.td_front_flat.specs.Order.{numbers_of}
use Rattle.td_front_flat.proofs.graph.graph_of.Given as goal

abbrev pub invariant-loop-uses : goal.invariant-loop-uses
invariant-loop-uses l = l.graph ++ map (numbers_of l.names) (drop l.uses-index l.all) ≡ map (numbers_of l.names) l.all
