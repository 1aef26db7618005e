use Rattle.std.proofs.Common.{arith}
use Rattle.td_ast.proofs.Sizes.{statement_below}
use Rattle.td_limits.proofs.Folds.{block_more}
use Rattle.td_limits.proofs.nodes.+block.Goals as goal

pub statements_nodes-statement_nodes-requires : goal.statements_nodes-statement_nodes-requires
statements_nodes-statement_nodes-requires t c =
    let small = statement_below c.args.statements.now c.loop-statement.statement-index c.statement-item.result (omega arith) c.statement-item.is in
    (omega arith, tt)

pub statements_nodes-loop-statement-preserved : goal.statements_nodes-loop-statement-preserved
statements_nodes-loop-statement-preserved t c =
    let more = block_more c.args.statements.now c.loop-statement.statement-index c.statement-item.result (omega arith) c.statement-item.is in
    omega arith
