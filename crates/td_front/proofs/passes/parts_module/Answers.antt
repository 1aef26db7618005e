use Rattle.std.proofs.Common.{sym, subst}
use Rattle.td_ast.specs.declared.parts.InputTree.TheVariants.{Parts}
use Rattle.td_front.specs.Passes.{HasCounts}
use Rattle.td_front.proofs.passes.parts_module.Goals as goal

pub tree_module-found-requires : goal.tree_module-found-requires
tree_module-found-requires c = subst HasCounts (sym c.in_ok-tree.ensures.tree) (c.counts_stay.ensures (Parts c.args.parts.now) c.requires.counts)
