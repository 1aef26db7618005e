use Rattle.std.proofs.Common.{◌≡◌, ◌++◌, drop}
use Rattle.td_core.proofs.copying.copy_definitions.Given as goal

-- what was copied, and what is left
abbrev pub invariant-loop-definition : goal.invariant-loop-definition
invariant-loop-definition l = l.copied ++ drop l.definition-index l.definitions ≡ l.definitions
