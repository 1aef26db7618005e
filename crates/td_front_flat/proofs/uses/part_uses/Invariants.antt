use Rattle.std.proofs.Common.{◌≡◌, ◌++◌, drop, flat_map}
use Rattle.td_front_flat.specs.Uses.{definition_uses}
use Rattle.td_front_flat.proofs.uses.part_uses.Given as goal

abbrev pub invariant-loop-definition : goal.invariant-loop-definition
invariant-loop-definition l = l.uses ++ flat_map definition_uses (drop l.definition-index l.part.definitions) ≡ flat_map definition_uses l.part.definitions
