use Rattle.std.proofs.Common.{◌≡◌, drop}
use Rattle.td_elab_rules.specs.Breach.{first_of}
use Rattle.td_elab_rules.specs.Parameters.{no_head, head_of, params_breaches}
use Rattle.td_elab_defs.proofs.parameters.head.Given as goal

-- what is left of the parameters decides
abbrev pub invariant-loop-tree : goal.invariant-loop-tree
invariant-loop-tree l =
    let rest = drop l.tree-index l.trees in
    record {
      core : head_of l.names l.known l.head rest ≡ head_of l.names l.known no_head l.trees;
      first : first_of l.findings.first (params_breaches l.names l.known l.head rest) ≡ first_of l.fn.findings.first (params_breaches l.names l.known no_head l.trees);
    }
