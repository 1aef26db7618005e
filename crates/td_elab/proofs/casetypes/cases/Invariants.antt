use Rattle.std.proofs.Common.{◌≡◌, [], ◌++◌, drop}
use Rattle.td_elab_rules.specs.Breach.{first_of}
use Rattle.td_elab_rules.specs.Casetypes.{cases_breaches, cases_taken, cases_core}
use Rattle.td_elab.proofs.casetypes.cases.Given as goal

-- what is left of the cases decides
abbrev pub invariant-loop-tree : goal.invariant-loop-tree
invariant-loop-tree l =
    let rest = drop l.tree-index l.trees in
    record {
      core : l.cases ++ cases_core l.names l.known l.fn.bindings.scope rest ≡ cases_core l.names l.known l.fn.bindings.scope l.trees;
      first : first_of l.findings.first (cases_breaches l.known l.bindings.taken l.fn.bindings.scope l.switch l.before rest) ≡ first_of l.fn.findings.first (cases_breaches l.known l.fn.bindings.taken l.fn.bindings.scope l.switch [] l.trees);
      taken : cases_taken l.bindings.taken rest ≡ cases_taken l.fn.bindings.taken l.trees;
      scope : l.bindings.scope ≡ l.fn.bindings.scope;
    }
