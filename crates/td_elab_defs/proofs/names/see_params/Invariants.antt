use Rattle.std.proofs.Common.{◌≡◌, drop}
use Rattle.td_elab_rules.specs.Modules.{see_params}
use Rattle.td_elab_defs.proofs.names.see_params.Given as goal

-- what is left of them decides
abbrev pub invariant-loop-tree : goal.invariant-loop-tree
invariant-loop-tree l = see_params l.names (drop l.tree-index l.trees) ≡ see_params l.fn.names l.trees
