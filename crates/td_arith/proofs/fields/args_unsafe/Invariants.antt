use Rattle.std.proofs.Common.{◌≡◌, drop}
use Rattle.td_expr.specs.Safe.{first}
use Rattle.td_arith.specs.Known.{facts_in}
use Rattle.td_arith.specs.SafeModule.{list_unsafe}
use Rattle.td_arith.proofs.fields.args_unsafe.Given as goal

-- what was found so far, or else what is left, decides
abbrev pub invariant-loop-e : goal.invariant-loop-e
invariant-loop-e l = record {
  left : first l.found (list_unsafe (facts_in l.initial.known.items) (drop l.e-index l.args)) ≡ list_unsafe (facts_in l.initial.known.items) l.args;
  known : l.known.items ≡ l.initial.known.items;
}
