use Rattle.std.proofs.Common.{◌≡◌, drop}
use Rattle.td_kinds.specs.Kinds.{kind_at}
use Rattle.td_kinds.specs.KindRules.{definitions_faults, first_fault}
use Rattle.td_kinds.proofs.modules.definitions_fault.Given as goal

-- the first fault is among what is left
abbrev pub invariant-loop-definition : goal.invariant-loop-definition
invariant-loop-definition l = first_fault (definitions_faults (kind_at l.kinds) (drop l.definition-index l.definitions)) ≡ first_fault (definitions_faults (kind_at l.kinds) l.definitions)
