use Rattle.std.proofs.Common.{◌≡◌, [], drop}
use Rattle.td_elab_rules.specs.Modules.{all_names}
use Rattle.td_elab_defs.proofs.names.all_names.Given as goal

-- what is left of the definitions decides
abbrev pub invariant-loop-tree : goal.invariant-loop-tree
invariant-loop-tree l = all_names l.names (drop l.tree-index l.trees) ≡ all_names [] l.trees
