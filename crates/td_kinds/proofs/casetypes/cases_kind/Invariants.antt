use Rattle.std.proofs.Common.{◌≡◌, drop}
use Rattle.td_kinds.specs.Kinds.{kind_at, cases_kind}
use Rattle.td_kinds.proofs.casetypes.cases_kind.Given as goal

-- what is left is still to be spanned
abbrev pub invariant-loop-case : goal.invariant-loop-case
invariant-loop-case l = cases_kind (kind_at l.kinds) l.kind (drop l.case-index l.cases) ≡ cases_kind (kind_at l.kinds) l.fn.otherwise l.cases
