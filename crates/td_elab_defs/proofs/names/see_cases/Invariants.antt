use Rattle.std.proofs.Common.{◌≡◌, drop}
use Rattle.td_elab_rules.specs.Modules.{see_cases}
use Rattle.td_elab_defs.proofs.names.see_cases.Given as goal

-- what is left of them decides
abbrev pub invariant-loop-tree : goal.invariant-loop-tree
invariant-loop-tree l = see_cases l.names (drop l.tree-index l.trees) ≡ see_cases l.fn.names l.trees
