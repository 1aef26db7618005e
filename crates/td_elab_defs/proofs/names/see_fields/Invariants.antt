use Rattle.std.proofs.Common.{◌≡◌, drop}
use Rattle.td_elab_rules.specs.Modules.{see_fields}
use Rattle.td_elab_defs.proofs.names.see_fields.Given as goal

-- what is left of them decides
abbrev pub invariant-loop-tree : goal.invariant-loop-tree
invariant-loop-tree l = see_fields l.names (drop l.tree-index l.trees) ≡ see_fields l.fn.names l.trees
