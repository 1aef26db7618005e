use Rattle.std.proofs.Common.{◌≡◌, ◌++◌, drop, map}
use Rattle.td_front_flat.specs.Definitions.{flat_definition}
use Rattle.td_front_flat.proofs.parts.add_definitions.Given as goal

abbrev pub invariant-loop-definition : goal.invariant-loop-definition
invariant-loop-definition l = l.whole ++ map (flat_definition l.own) (drop l.definition-index l.definitions) ≡ l.fn.whole ++ map (flat_definition l.own) l.definitions
