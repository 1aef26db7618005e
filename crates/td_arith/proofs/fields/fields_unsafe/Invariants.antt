use Rattle.std.proofs.Common.{◌≡◌, drop}
use Rattle.td_expr.specs.Safe.{first}
use Rattle.td_arith.specs.Known.{facts_in}
use Rattle.td_arith.specs.SafeModule.{fields_unsafe}
use Rattle.td_arith.proofs.fields.fields_unsafe.Given as goal

-- what was found so far, or else what is left, decides
abbrev pub invariant-loop-field : goal.invariant-loop-field
invariant-loop-field l = first l.found (fields_unsafe l.here (facts_in l.known.items) (drop l.field-index l.fields)) ≡ fields_unsafe l.fn.level (facts_in l.initial.known.items) l.fields
