use Rattle.std.proofs.Common.{◌≡◌, [], drop}
use Rattle.td_expr.specs.Safe.{first}
use Rattle.td_arith.specs.SafeModule.{known_after, cases_unsafe}
use Rattle.td_arith.proofs.casetypes.cases_unsafe.Given as goal

-- what was found so far, or else what is left, decides
abbrev pub invariant-loop-case : goal.invariant-loop-case
invariant-loop-case l = first l.found (cases_unsafe l.level (known_after [] l.guard) (drop l.case-index l.cases)) ≡ cases_unsafe l.level (known_after [] l.guard) l.cases
