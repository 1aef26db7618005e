use Rattle.std.proofs.Common.{◌≡◌, ◌+◌, drop, None}
use Rattle.td_elab_rules.specs.Leading.{leading_size}
use Rattle.td_elab_actions.specs.Scopes.{Grows}
use Rattle.td_elab_fields.proofs.leading.sum.Given as goal

-- what is left of the fields decides
abbrev pub invariant-loop-tree : goal.invariant-loop-tree
invariant-loop-tree l = record {
  size : l.total + leading_size l.known l.scope l.room (drop l.tree-index l.trees) ≡ leading_size l.known l.fn.scope None l.trees;
  scope : Grows l.fn.scope l.scope;
}
