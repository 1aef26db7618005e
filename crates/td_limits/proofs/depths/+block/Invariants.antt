use Rattle.std.proofs.Common.{◌≡◌, ◌+◌, ◌*◌, map, take}
use Rattle.td_ast.specs.Statements.{statement_size, list_size}
use Rattle.td_limits.specs.Excesses.{greatest}
use Rattle.td_limits.specs.Depths.{statement_depth}
use Rattle.td_limits.proofs.depths.+block.Given as goal

abbrev pub decreases-statement_depth : goal.decreases-statement_depth
decreases-statement_depth l = 3 * statement_size l.statement.now

abbrev pub decreases-statements_depth : goal.decreases-statements_depth
decreases-statements_depth l = 3 * list_size l.statements.now + 1

abbrev pub decreases-block_depth : goal.decreases-block_depth
decreases-block_depth l = 3 * list_size l.block.now + 2

abbrev pub invariant-statements_depth-loop-statement : goal.invariant-statements_depth-loop-statement
invariant-statements_depth-loop-statement l = l.depth ≡ greatest (map (statement_depth l.known) (take l.statement-index l.statements))
