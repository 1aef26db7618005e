use Rattle.std.proofs.Common.{◌+◌, ◌*◌}
use Rattle.td_ast.specs.Trees.{tree_size}
use Rattle.td_print.proofs.expressions.+expression.Given as goal

abbrev pub decreases-write_operand : goal.decreases-write_operand
decreases-write_operand l = 3 * tree_size l.operand.now + 1

abbrev pub decreases-write_next : goal.decreases-write_next
decreases-write_next l = 3 * tree_size l.e.now + 1

abbrev pub decreases-write_range : goal.decreases-write_range
decreases-write_range l = 3 * (tree_size l.size.now + tree_size l.offset.now + tree_size l.access.now) + 2

abbrev pub decreases-write_expression : goal.decreases-write_expression
decreases-write_expression l = 3 * tree_size l.e.now
