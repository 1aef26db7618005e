use Rattle.std.proofs.Common.{◌≡◌, ◌++◌, drop}
use Rattle.td_elab_rules.specs.Breach.{first_of}
use Rattle.td_elab_rules.specs.Types.{args_core, args_breaches}
use Rattle.td_elab_types.proofs.arguments.add_terms.Given as goal

abbrev pub invariant-loop-i : goal.invariant-loop-i
invariant-loop-i l = record {
  core : l.terms ++ args_core l.known l.scope (drop l.i l.parameters) (drop l.i l.args) ≡ l.fn.terms ++ args_core l.known l.scope l.parameters l.args;
  first : first_of l.findings.first (args_breaches l.known l.scope (drop l.i l.parameters) (drop l.i l.args)) ≡ first_of l.fn.findings.first (args_breaches l.known l.scope l.parameters l.args);
}
