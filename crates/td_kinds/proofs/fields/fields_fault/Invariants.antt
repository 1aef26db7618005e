use Rattle.std.proofs.Common.{◌≡◌, drop}
use Rattle.td_kinds.specs.Kinds.{kind_at}
use Rattle.td_kinds.specs.KindRules.{fields_faults, first_fault}
use Rattle.td_kinds.proofs.fields.fields_fault.Given as goal

-- the first fault is among what is left
abbrev pub invariant-loop-i : goal.invariant-loop-i
invariant-loop-i l = first_fault (fields_faults (kind_at l.kinds) (drop l.i l.fields)) ≡ first_fault (fields_faults (kind_at l.kinds) l.fields)
