use Rattle.std.proofs.Common.{◌≡◌}
use Rattle.td_kinds.specs.KindRules.{kinds_to}
use Rattle.td_kinds.proofs.modules.all_kinds.Given as goal

-- the kinds so far
abbrev pub invariant-loop-definition : goal.invariant-loop-definition
invariant-loop-definition l = l.kinds.items ≡ kinds_to l.definitions l.definition-index
