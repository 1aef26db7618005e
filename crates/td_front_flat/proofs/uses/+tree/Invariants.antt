use Rattle.std.proofs.Common.{◌+◌, ◌*◌}
use Rattle.td_ast.specs.Trees.{tree_size}
use Rattle.td_front_flat.proofs.uses.+tree.Given as goal

abbrev pub decreases-add_tree : goal.decreases-add_tree
decreases-add_tree l = 3 * tree_size l.e.now

abbrev pub decreases-add_two : goal.decreases-add_two
decreases-add_two l = 3 * (tree_size l.a.now + tree_size l.b.now) + 1

abbrev pub decreases-add_three : goal.decreases-add_three
decreases-add_three l = 3 * (tree_size l.a.now + tree_size l.b.now + tree_size l.c.now) + 2
