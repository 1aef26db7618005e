use Rattle.std.proofs.Common.{◌≡◌, drop}
use Rattle.td_kinds.specs.Kinds.{kind_at}
use Rattle.td_kinds.specs.KindRules.{cases_faults, first_fault}
use Rattle.td_kinds.proofs.casetypes.cases_fault.Given as goal

-- the first fault is among what is left
abbrev pub invariant-loop-case : goal.invariant-loop-case
invariant-loop-case l = first_fault (cases_faults (kind_at l.kinds) (drop l.case-index l.cases)) ≡ first_fault (cases_faults (kind_at l.kinds) l.cases)
