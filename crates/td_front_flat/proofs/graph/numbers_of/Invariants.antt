use Rattle.std.proofs.Common.{◌≡◌, ◌++◌, drop}
use Rattle.td_front_flat.specs.Order.{numbers_of}
use Rattle.td_front_flat.proofs.graph.numbers_of.Given as goal

abbrev pub invariant-loop-name : goal.invariant-loop-name
invariant-loop-name l = l.numbers ++ numbers_of l.names (drop l.name-index l.uses) ≡ numbers_of l.names l.uses
