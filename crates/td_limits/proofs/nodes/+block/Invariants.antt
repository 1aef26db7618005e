use Rattle.std.proofs.Common.{◌≡◌, ◌+◌, ◌*◌, take}
use Rattle.td_ast.specs.Statements.{statement_size, list_size, block_of}
use Rattle.td_limits.specs.Excesses.{capped}
use Rattle.td_limits.specs.Nodes.{block_nodes}
use Rattle.td_limits.proofs.nodes.+block.Given as goal

abbrev pub decreases-statement_nodes : goal.decreases-statement_nodes
decreases-statement_nodes l = 3 * statement_size l.statement.now

abbrev pub decreases-statements_nodes : goal.decreases-statements_nodes
decreases-statements_nodes l = 3 * list_size l.statements.now + 1

abbrev pub decreases-block_nodes : goal.decreases-block_nodes
decreases-block_nodes l = 3 * list_size l.block.now + 2

abbrev pub invariant-statements_nodes-loop-statement : goal.invariant-statements_nodes-loop-statement
invariant-statements_nodes-loop-statement l = l.total ≡ capped (block_nodes (block_of (take l.statement-index l.statements)))
