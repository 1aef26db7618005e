use Rattle.std.proofs.Common.{◌≡◌, drop}
use Rattle.td_front_flat.specs.Definitions.{all_literals}
use Rattle.td_front_flat.proofs.parts.see_all_literals.Given as goal

abbrev pub invariant-loop-definition : goal.invariant-loop-definition
invariant-loop-definition l = all_literals l.names (drop l.definition-index l.definitions) ≡ all_literals l.fn.names l.definitions
