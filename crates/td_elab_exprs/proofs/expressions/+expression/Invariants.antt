use Rattle.std.proofs.Common.{◌+◌, ◌*◌}
use Rattle.td_ast.specs.Trees.{tree_size}
use Rattle.td_elab_exprs.proofs.expressions.+expression.Given as goal

abbrev pub decreases-expression : goal.decreases-expression
decreases-expression l = 3 * tree_size l.e.now

abbrev pub decreases-operands : goal.decreases-operands
decreases-operands l = 3 * (tree_size l.a.now + tree_size l.b.now) + 1

abbrev pub decreases-range_okay : goal.decreases-range_okay
decreases-range_okay l = 3 * (tree_size l.z.now + tree_size l.o.now + tree_size l.a.now) + 2

abbrev pub decreases-unary : goal.decreases-unary
decreases-unary l = 3 * tree_size l.a.now + 2

abbrev pub decreases-binary : goal.decreases-binary
decreases-binary l = 3 * (tree_size l.a.now + tree_size l.b.now) + 2

abbrev pub decreases-choice : goal.decreases-choice
decreases-choice l = 3 * (tree_size l.c.now + tree_size l.a.now + tree_size l.b.now) + 2
