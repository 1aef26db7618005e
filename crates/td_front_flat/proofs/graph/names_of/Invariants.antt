use Rattle.std.proofs.Common.{◌≡◌, drop, [], ◌++◌}
use Rattle.td_front_flat.specs.Order.{names_of, first_twice}
use Rattle.td_front_flat.proofs.graph.names_of.Given as goal

abbrev pub invariant-loop-part : goal.invariant-loop-part
invariant-loop-part l = (l.names ++ names_of (drop l.part-index l.parts) ≡ names_of l.parts) × (first_twice l.names (drop l.part-index l.parts) ≡ first_twice [] l.parts)
