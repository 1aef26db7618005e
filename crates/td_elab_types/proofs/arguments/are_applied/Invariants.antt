use Rattle.std.proofs.Common.{◌≡◌, drop, length}
use Rattle.td_elab_rules.specs.Types.{are_applied}
use Rattle.td_elab_types.proofs.arguments.are_applied.Given as goal

abbrev pub invariant-loop-i : goal.invariant-loop-i
invariant-loop-i l = record {
  same : length l.parameters ≡ length l.args;
  rest : are_applied l.known l.scope (drop l.i l.parameters) (drop l.i l.args) ≡ are_applied l.known l.scope l.parameters l.args;
}
