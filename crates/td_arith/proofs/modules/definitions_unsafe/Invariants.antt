use Rattle.std.proofs.Common.{◌≡◌, drop}
use Rattle.td_expr.specs.Safe.{first}
use Rattle.td_arith.specs.SafeModule.{definitions_unsafe}
use Rattle.td_arith.proofs.modules.definitions_unsafe.Given as goal

-- what was found so far, or else what is left, decides
abbrev pub invariant-loop-definition : goal.invariant-loop-definition
invariant-loop-definition l = first l.found (definitions_unsafe (drop l.definition-index l.definitions)) ≡ definitions_unsafe l.definitions
