use Rattle.std.proofs.Common.{◌+◌, ◌*◌}
use Rattle.td_ast.specs.Trees.{tree_size}
use Rattle.td_front_flat.proofs.expressions.+expression.Given as goal

abbrev pub decreases-flat_tree : goal.decreases-flat_tree
decreases-flat_tree l = 4 * tree_size l.e.now

abbrev pub decreases-flat_boxed : goal.decreases-flat_boxed
decreases-flat_boxed l = 4 * tree_size l.e.now + 1

abbrev pub decreases-flat_two : goal.decreases-flat_two
decreases-flat_two l = 4 * (tree_size l.a.now + tree_size l.b.now) + 2

abbrev pub decreases-flat_three : goal.decreases-flat_three
decreases-flat_three l = 4 * (tree_size l.a.now + tree_size l.b.now + tree_size l.c.now) + 3
